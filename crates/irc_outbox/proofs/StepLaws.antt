-- How the connections of a wire in memory stand behind a step.
use Rattle.std.proofs.Common.{◌≡◌, ℕ, ◌+◌, ◌<◌, max, Bool, true, false, not, ◌||◌, cond, nat_eq}
use Rattle.std.proofs.Common.{Option, Some, None, List, [], ◌∷◌, ◌++◌, length, take, get_or, refl}
use Rattle.std.proofs.Common.{sym, ◌∙◌, ap}
use Rattle.std.specs.List.{list_any}
use Rattle.std.specs.Option.{option_map}
use Rattle.std.specs.BTreeMap.{BTreeMap}
use Rattle.std.proofs.lemmas.Bool.{eqb-true}
use Rattle.std.proofs.lemmas.List.{take_more}
use Rattle.std.proofs.lemmas.List.Folds.{list_any-append}
use Rattle.std.proofs.lemmas.List.Sums.{fold_more}
use Rattle.irc_outbox.specs.declared.memory.Far.{Far}
use Rattle.irc_outbox.specs.declared.memory.WireStep.{WireStep}
use Rattle.irc_outbox.specs.declared.memory.WireStep.TheVariants as step
use Rattle.irc_outbox.specs.declared.memory.Way.{Way}
use Rattle.irc_outbox.specs.declared.memory.Way.TheVariants as way
use Rattle.irc_outbox.specs.Memory.{WireTold, told_by_far, told_at, told_or_none, far_at, Changes}
use Rattle.irc_outbox.specs.Memory.{at_far, no_far}
use Rattle.irc_outbox.specs.Steps.{failed_once, is_reported, is_reported_at, is_served, longest_of}
use Rattle.irc_outbox.specs.Steps.{meets, step_bytes, step_conn, told_then}
use Rattle.irc_outbox.proofs.MemoryLaws.{IsAlike, KeepsTold}

pub met_alike : (step : WireStep) (t : WireTold) → IsAlike (told_then step t) t
met_alike (step.Client conn host) t = record { taken = refl; written = refl; closed = refl }
met_alike (step.Linked conn name) t = record { taken = refl; written = refl; closed = refl }
met_alike (step.Bytes conn bytes) t = record { taken = refl; written = refl; closed = refl }
met_alike (step.End conn) t = record { taken = refl; written = refl; closed = refl }
met_alike (step.ReadFails conn) t = record { taken = refl; written = refl; closed = refl }
met_alike (step.Room conn room) t = record { taken = refl; written = refl; closed = refl }
met_alike (step.WriteFails conn) t = record { taken = refl; written = refl; closed = refl }

pub meets_keeps : (step : WireStep) → KeepsTold (meets step)
meets_keeps step t = by (is_reported step t)
  where
    by : (b : Bool) → IsAlike (cond b (told_then step t) t) t
    by true = met_alike step t
    by false = record { taken = refl; written = refl; closed = refl }

pub failed_keeps : (which : Way) → KeepsTold (failed_once which)
failed_keeps way.In t = record { taken = refl; written = refl; closed = refl }
failed_keeps way.Out t = record { taken = refl; written = refl; closed = refl }

-- what is told of each connection behind a change of one
pub changed_at : (conn : ℕ) (change : WireTold → WireTold) (old new : BTreeMap ℕ Far)
    → Changes conn change old new → (q : ℕ)
    → told_at new q ≡ cond (nat_eq conn q) (option_map change (told_at old q)) (told_at old q)
changed_at conn change old new (at_far far now was set so keeps) q =
    ap (option_map told_by_far) (set q) ∙ by (nat_eq conn q) refl
  where
    by : (b : Bool) → nat_eq conn q ≡ b → option_map told_by_far (cond b (Some now) (far_at old q))
        ≡ cond b (option_map change (told_at old q)) (told_at old q)
    by true e = ap Some so ∙ ap (λ (f : Option Far). option_map change (option_map told_by_far f))
        (sym was ∙ ap (far_at old) (eqb-true conn q e))
    by false e = refl
changed_at conn change old new (no_far none same) q = ap (option_map told_by_far) (same q)
    ∙ by (nat_eq conn q) refl
  where
    by : (b : Bool) → nat_eq conn q ≡ b
        → told_at old q ≡ cond b (option_map change (told_at old q)) (told_at old q)
    by true e = let nobody = sym (ap (far_at old) (eqb-true conn q e)) ∙ none in
        ap (option_map told_by_far) nobody
        ∙ sym (ap (λ (f : Option Far). option_map change (option_map told_by_far f)) nobody)
    by false e = refl

unmet : (step : WireStep) (t : Option WireTold) → is_reported_at step t ≡ false
    → option_map (meets step) t ≡ t
unmet step None e = refl
unmet step (Some t) e = ap (λ b. Some (cond b (told_then step t) t)) e

was_met : (step : WireStep) (t : Option WireTold) → is_reported_at step t ≡ true
    → option_map (meets step) t ≡ option_map (told_then step) t
was_met step None e = refl
was_met step (Some t) e = ap (λ b. Some (cond b (told_then step t) t)) e

-- what a change of a connection leaves as it is
pub still_so : {A : Type 0} (f : WireTold → A) (conn : ℕ) (change : WireTold → WireTold)
    (old new : BTreeMap ℕ Far) → ((t : WireTold) → f (change t) ≡ f t) → Changes conn change old new
    → f (told_or_none (told_at new conn)) ≡ f (told_or_none (told_at old conn))
still_so f conn change old new same changes =
    ap (λ t. f (told_or_none t)) (changed_at conn change old new changes conn)
    ∙ by (nat_eq conn conn) (told_at old conn)
  where
    by : (b : Bool) (t : Option WireTold)
        → f (told_or_none (cond b (option_map change t) t)) ≡ f (told_or_none t)
    by true None = refl
    by true (Some t) = same t
    by false t = refl

pub failed_ends : (which : Way) (t : WireTold) → (failed_once which t).ended ≡ t.ended
failed_ends way.In t = refl
failed_ends way.Out t = refl

pub failed_room : (which : Way) (t : WireTold) → (failed_once which t).room ≡ t.room
failed_room way.In t = refl
failed_room way.Out t = refl

-- a step that is not reported changes nothing
pub passed_over : (step : WireStep) (old new : BTreeMap ℕ Far) → Changes (step_conn step)
    (meets step) old new → is_served old step ≡ false → (q : ℕ) → told_at new q ≡ told_at old q
passed_over step old new changes unserved q =
    changed_at (step_conn step) (meets step) old new changes q ∙ by (nat_eq (step_conn step) q) refl
  where
    by : (b : Bool) → nat_eq (step_conn step) q ≡ b
        → cond b (option_map (meets step) (told_at old q)) (told_at old q) ≡ told_at old q
    by true e = unmet step (told_at old q) (ap (λ n. is_reported_at step (told_at old n))
        (sym (eqb-true (step_conn step) q e)) ∙ unserved)
    by false e = refl

-- one that is reported changes how its connection stands
pub stood : (step : WireStep) (old mid new : BTreeMap ℕ Far)
    → ((q : ℕ) → told_at mid q ≡ told_at old q) → Changes (step_conn step) (meets step) mid new
    → is_served mid step ≡ true → (q : ℕ) → told_at new q ≡ cond (nat_eq (step_conn step) q)
    (option_map (told_then step) (told_at old q)) (told_at old q)
stood step old mid new same changes served q =
    changed_at (step_conn step) (meets step) mid new changes q ∙ by (nat_eq (step_conn step) q) refl
    ∙ ap (λ (t : Option WireTold). cond (nat_eq (step_conn step) q)
    (option_map (told_then step) t) t) (same q)
  where
    by : (b : Bool) → nat_eq (step_conn step) q ≡ b
        → cond b (option_map (meets step) (told_at mid q)) (told_at mid q)
        ≡ cond b (option_map (told_then step) (told_at mid q)) (told_at mid q)
    by true e = was_met step (told_at mid q) (ap (λ n. is_reported_at step (told_at mid n))
        (sym (eqb-true (step_conn step) q e)) ∙ served)
    by false e = refl

-- whether a step is served is told by how the connections stand
pub served_alike : (step : WireStep) (old mid : BTreeMap ℕ Far)
    → ((q : ℕ) → told_at mid q ≡ told_at old q) → is_served old step ≡ is_served mid step
served_alike step old mid same = ap (is_reported_at step) (sym (same (step_conn step)))

-- none of some steps is served, and the next one is not
pub none_more : (p : WireStep → Bool) (passed : List WireStep) (step : WireStep)
    → list_any p passed ≡ false → p step ≡ false → list_any p (passed ++ step ∷ []) ≡ false
none_more p passed step none unserved =
    list_any-append p passed (step ∷ []) ∙ ap (λ b. b || (p step || false)) none
    ∙ ap (λ b. b || false) unserved

-- one step more, and the longest of them
pub longest_more : (steps : List WireStep) (i : ℕ) (step : WireStep)
    → i < length steps → step ≡ get_or steps i step
    → longest_of (take (i + 1) steps) ≡ max (longest_of (take i steps)) (length (step_bytes step))
longest_more steps i step within is =
    fold_more (λ n s. max n (length (step_bytes s))) 0 steps i step within
    ∙ ap (λ s. max (longest_of (take i steps)) (length (step_bytes s))) (sym is)

-- one step more of some
pub taken_more : (steps : List WireStep) (i : ℕ) (step : WireStep) → i < length steps
    → step ≡ get_or steps i step → take (i + 1) steps ≡ take i steps ++ step ∷ []
taken_more steps i step within is =
    take_more steps i step within ∙ ap (λ s. take i steps ++ s ∷ []) (sym is)

-- a number that was reported before stays one that was
pub known_so : (t : WireTold)
    → record t { known = true } ≡ cond (not t.known) (record t { known = true }) t
known_so t = by t.known refl
  where
    by : (b : Bool) → t.known ≡ b
        → record t { known = true } ≡ cond (not b) (record t { known = true }) t
    by true e = ap (λ (b : Bool). record t { known = b }) (sym e)
    by false e = refl
