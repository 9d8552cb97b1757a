-- What a wire in memory tells follows the account of its calls.
use Rattle.std.proofs.Common.{◌≡◌, ℕ, ◌≤◌, Bool, true, false, ◌||◌, cond, nat_eq, is_some, IsSome}
use Rattle.std.proofs.Common.{IfSome, Option, Some, None, Result, Ok, Err, OnOk, List, [], ◌∷◌}
use Rattle.std.proofs.Common.{◌++◌, length, take, drop, vec_capacity, refl, sym, ◌∙◌, ap}
use Rattle.std.proofs.Common.{subst, append-nil, le_refl}
use Rattle.std.specs.List.{list_any}
use Rattle.std.specs.Global.{Vec}
use Rattle.std.specs.Option.{option_map}
use Rattle.std.specs.Ordering.{nat_cmp, is_eq}
use Rattle.std.specs.Cmp.{nat_cmp_total, eq_by_cmp_equiv, Equal-is}
use Rattle.std.specs.FinMap.{nat_cmp-IsAntisymmetric}
use Rattle.std.specs.BTreeMap.{BTreeMap, UpdatesBy, get_by}
use Rattle.std.proofs.lemmas.Bool.{eq-eqb, eqb-true}
use Rattle.std.proofs.lemmas.Grind.{flat_map-append}
use Rattle.std.proofs.lemmas.List.{take-append-drop, take-append-le}
use Rattle.std.proofs.lemmas.List.Folds.{list_any-append}
use Rattle.std.proofs.Math.Bool.{or-true, or-false}
use Rattle.irc_names.specs.Lemmas.PlainFacts.{same_either_way}
use Rattle.irc_outbox.specs.declared.memory.Far.{Far}
use Rattle.irc_outbox.specs.declared.wire.IoFault.{IoFault}
use Rattle.irc_outbox.specs.declared.wire.Ready.{Ready}
use Rattle.irc_outbox.specs.Calls.{Call, asks, reads, writes, closes, taken, taken_by, written}
use Rattle.irc_outbox.specs.Calls.{written_by, is_close_of}
use Rattle.irc_outbox.specs.Memory.{WireTold, told_by_far, same_told, with_taken, with_written}
use Rattle.irc_outbox.specs.Memory.{with_close, far_at, told_at, IsTold, IsToldAt, AllFresh}
use Rattle.irc_outbox.specs.Memory.{AllWiresTold, Changes, at_far, no_far, KeepsMemory, IsFarAdded}
use Rattle.irc_outbox.specs.Memory.{StillTold, Gives, fresh_told}

pub on_ok : {E : Type 0} (result : Result (Unit {0}) E) (P Q : Type 0) → (P → Q) → OnOk result P
    → OnOk result Q
on_ok (Ok done) P Q so holds = so holds
on_ok (Err fault) P Q so holds = tt

pub whenever : {E : Type 0} (result : Result (Unit {0}) E) (P : Type 0) → P → OnOk result P
whenever (Ok done) P holds = holds
whenever (Err fault) P holds = tt

-- an account says the same of both
pub record IsAlike (t u : WireTold) : Type 0 where
  pub taken : t.taken ≡ u.taken
  pub written : t.written ≡ u.written
  pub closed : t.closed ≡ u.closed

abbrev pub KeepsTold : (WireTold → WireTold) → Type 0
KeepsTold change = (t : WireTold) → IsAlike (change t) t

-- numbers are one by their order just where they are equal
pub by_order : (a b : ℕ) → is_eq (nat_cmp a b) ≡ nat_eq a b
by_order a b = by (is_eq (nat_cmp a b)) refl (nat_eq a b) refl
  where
    by : (s : Bool) → is_eq (nat_cmp a b) ≡ s → (t : Bool) → nat_eq a b ≡ t → s ≡ t
    by true e true f = refl
    by false e false f = refl
    by true e false f =
        sym (eq-eqb a b (nat_cmp-IsAntisymmetric a b ((Equal-is (nat_cmp a b)).0 e))) ∙ f
    by false e true f =
        sym e ∙ ap (λ n. is_eq (nat_cmp n b)) (eqb-true a b f)
        ∙ (eq_by_cmp_equiv nat_cmp_total).refl b

pub changed : (conn : ℕ) (change : WireTold → WireTold)
    (old new : BTreeMap ℕ Far) (far now : Far) → Some far ≡ far_at old conn
    → (IsSome (get_by (nat_cmp conn) old) → UpdatesBy nat_cmp (nat_cmp conn) old new (Some now))
    → told_by_far now ≡ change (told_by_far far) → KeepsMemory far now → Changes conn change old new
changed conn change old new far now is updates so keeps =
    at_far far now (sym is)
    (λ q. (updates (sym (ap is_some is))).0 q
    ∙ ap (λ b. cond b (Some now) (far_at old q)) (by_order conn q))
    so keeps

-- what comes first of the front of some bytes comes first of them all
pub front_of_front : (n m : ℕ) (bytes : List ℕ) → n ≤ length (take m bytes)
    → take n (take m bytes) ≡ take n bytes
front_of_front n m bytes within = sym (take-append-le n (take m bytes) (drop m bytes) within)
    ∙ ap (take n) (take-append-drop m bytes)

pub same_memory : (far : Far) → KeepsMemory far (record far { closed = true })
same_memory far = record {
  taken = le_refl (vec_capacity far.taken);
  written = le_refl (vec_capacity far.written);
}

pub more_taken : (far : Far) (taken : Vec ℕ) → vec_capacity far.taken ≤ vec_capacity taken
    → KeepsMemory far (record far { taken = taken })
more_taken far taken more = record { taken = more; written = le_refl (vec_capacity far.written) }

other_told : (q : ℕ) (far : Option Far) (calls more : List Call) → IsToldAt q far calls
    → ((t : WireTold) → IsTold q t calls → IsTold q t (calls ++ more))
    → IsToldAt q far (calls ++ more)
other_told q None calls more is on = tt
other_told q (Some far) calls more is on = on (told_by_far far) is

all_told : (fars : BTreeMap ℕ Far) (calls more : List Call)
    → ((q : ℕ) (t : WireTold) → IsTold q t calls → IsTold q t (calls ++ more))
    → AllWiresTold fars calls → AllWiresTold fars (calls ++ more)
all_told fars calls more on all = λ q. other_told q (far_at fars q) calls more (all q) (on q)

told_on : (conn : ℕ) (change : WireTold → WireTold)
    (old new : BTreeMap ℕ Far) (calls more : List Call)
    → ((t : WireTold) → IsTold conn t calls → IsTold conn (change t) (calls ++ more)) → ((q : ℕ)
    → nat_eq conn q ≡ false → (t : WireTold) → IsTold q t calls → IsTold q t (calls ++ more))
    → Changes conn change old new → AllWiresTold old calls → AllWiresTold new (calls ++ more)
told_on conn change old new calls more here others (no_far none same) all = λ q.
    subst (λ (f : Option Far). IsToldAt q f (calls ++ more)) (sym (same q))
    (by q (far_at old q) refl (nat_eq conn q) refl (all q))
  where
    by : (q : ℕ) (f : Option Far) → far_at old q ≡ f → (t : Bool) → nat_eq conn q ≡ t
        → IsToldAt q f calls → IsToldAt q f (calls ++ more)
    by q None was t e is = tt
    by q (Some far) was true e is = let absent = ap (far_at old) (eqb-true conn q e) in cc
    by q (Some far) was false e is = others q e (told_by_far far) is
told_on conn change old new calls more here others (at_far far now was set so keeps) all = λ q.
    subst (λ (f : Option Far). IsToldAt q f (calls ++ more)) (sym (set q))
    (by q (nat_eq conn q) refl)
  where
    mine : IsTold conn (told_by_far now) (calls ++ more)
    mine = subst (λ (t : WireTold). IsTold conn t (calls ++ more)) (sym so)
        (here (told_by_far far) (subst (λ (f : Option Far). IsToldAt conn f calls) was (all conn)))

    by : (q : ℕ) (t : Bool) → nat_eq conn q ≡ t
        → IsToldAt q (cond t (Some now) (far_at old q)) (calls ++ more)
    by q true e =
        subst (λ (n : ℕ). IsTold n (told_by_far now) (calls ++ more)) (eqb-true conn q e) mine
    by q false e = other_told q (far_at old q) calls more (all q) (others q e)

-- one call more
grows : (q : ℕ) (t u : WireTold) (calls : List Call) (call : Call) (given put : List ℕ)
    (shut : Bool) → taken_by q call ≡ given → written_by q call ≡ put → is_close_of q call ≡ shut
    → u.taken ≡ t.taken ++ given → u.written ≡ t.written ++ put → u.closed ≡ (t.closed || shut)
    → IsTold q t calls → IsTold q u (calls ++ call ∷ [])
grows q t u calls call given put shut given_is put_is shut_is taken_now written_now closed_now is =
    record {
      taken_is = taken_now ∙ ap (λ xs. xs ++ given) is.taken_is
          ∙ sym (flat_map-append (taken_by q) calls (call ∷ [])
          ∙ ap (λ xs. taken q calls ++ xs) (append-nil (taken_by q call) ∙ given_is));
      written_is = written_now ∙ ap (λ xs. xs ++ put) is.written_is
          ∙ sym (flat_map-append (written_by q) calls (call ∷ [])
          ∙ ap (λ xs. written q calls ++ xs) (append-nil (written_by q call) ∙ put_is));
      closed_is = closed_now ∙ ap (λ b. b || shut) is.closed_is
          ∙ sym (list_any-append (is_close_of q) calls (call ∷ []) ∙ ap
          (λ b. list_any (is_close_of q) calls || b) (or-false (is_close_of q call) ∙ shut_is));
    }

quiet : (q : ℕ) (t : WireTold) (calls : List Call) (call : Call) → taken_by q call ≡ []
    → written_by q call ≡ [] → is_close_of q call ≡ false → IsTold q t calls
    → IsTold q t (calls ++ call ∷ [])
quiet q t calls call none nothing never is =
    grows q t t calls call [] [] false none nothing never (sym (append-nil t.taken))
    (sym (append-nil t.written)) (sym (or-false t.closed)) is

pub still_told : (conn : ℕ) (change : WireTold → WireTold) (old new : BTreeMap ℕ Far)
    → KeepsTold change → Changes conn change old new → StillTold old new
still_told conn change old new keeps changes = λ calls all.
    subst (λ cs. AllWiresTold new cs) (append-nil calls) (told_on conn change old new calls []
    (λ t is. subst (λ cs. IsTold conn (change t) cs) (sym (append-nil calls)) (alike calls t is))
    (λ q two t is. subst (λ cs. IsTold q t cs) (sym (append-nil calls)) is) changes all)
  where
    alike : (calls : List Call) (t : WireTold) → IsTold conn t calls → IsTold conn (change t) calls
    alike calls t is = record {
      taken_is = (keeps t).taken ∙ is.taken_is;
      written_is = (keeps t).written ∙ is.written_is;
      closed_is = (keeps t).closed ∙ is.closed_is;
    }

pub still_on : (old mid new : BTreeMap ℕ Far) → StillTold old mid → StillTold mid new
    → StillTold old new
still_on old mid new one other = λ calls all. other calls (one calls all)

pub asked_told : (old new : BTreeMap ℕ Far) (answer : Result Ready IoFault) → StillTold old new
    → (calls : List Call) → AllWiresTold old calls → AllWiresTold new (calls ++ asks answer ∷ [])
asked_told old new answer stays = λ calls all.
    all_told new calls (asks answer ∷ [])
    (λ q t is. quiet q t calls (asks answer) refl refl refl is) (stays calls all)

-- a read that gave nothing
pub gives_none : (conn : ℕ) (old new : BTreeMap ℕ Far) → StillTold old new → Gives conn [] old new
gives_none conn old new stays = λ calls room answer all.
    all_told new calls (reads conn room answer [] ∷ [])
    (λ q t is. quiet q t calls (reads conn room answer [])
    (same_either_way (nat_eq conn q) []) refl refl is) (stays calls all)

pub gives : (conn : ℕ) (bytes : List ℕ) (old new : BTreeMap ℕ Far)
    → Changes conn (with_taken bytes) old new → Gives conn bytes old new
gives conn bytes old new changes = λ calls room answer all.
    told_on conn (with_taken bytes) old new calls (reads conn room answer bytes ∷ [])
    (λ t is. grows conn t (with_taken bytes t) calls (reads conn room answer bytes) bytes [] false
    (ap (λ b. cond b bytes []) (eq-eqb conn conn refl)) refl refl refl
    (sym (append-nil t.written)) (sym (or-false t.closed)) is)
    (λ q two t is. quiet q t calls (reads conn room answer bytes)
    (ap (λ b. cond b bytes []) two) refl refl is) changes all

pub takes_none : (conn : ℕ) (bytes : List ℕ) (fault : IoFault) (old new : BTreeMap ℕ Far)
    → StillTold old new → (calls : List Call) → AllWiresTold old calls
    → AllWiresTold new (calls ++ writes conn bytes (Err fault) ∷ [])
takes_none conn bytes fault old new stays = λ calls all.
    all_told new calls (writes conn bytes (Err fault) ∷ [])
    (λ q t is. quiet q t calls (writes conn bytes (Err fault)) refl
    (same_either_way (nat_eq conn q) []) refl is) (stays calls all)

pub takes : (conn : ℕ) (bytes : List ℕ) (n : ℕ) (old mid new : BTreeMap ℕ Far)
    → StillTold old mid → Changes conn (with_written (take n bytes)) mid new → (calls : List Call)
    → AllWiresTold old calls → AllWiresTold new (calls ++ writes conn bytes (Ok n) ∷ [])
takes conn bytes n old mid new stays changes = λ calls all.
    told_on conn (with_written (take n bytes)) mid new calls (writes conn bytes (Ok n) ∷ [])
    (λ t is. grows conn t (with_written (take n bytes) t) calls (writes conn bytes (Ok n)) []
    (take n bytes) false refl
    (ap (λ b. cond b (take n bytes) []) (eq-eqb conn conn refl)) refl
    (sym (append-nil t.taken)) refl
    (sym (or-false t.closed)) is)
    (λ q two t is. quiet q t calls (writes conn bytes (Ok n)) refl
    (ap (λ b. cond b (take n bytes) []) two) refl is) changes (stays calls all)

pub closed_told : (conn : ℕ) (old new : BTreeMap ℕ Far) → Changes conn with_close old new
    → (calls : List Call) → AllWiresTold old calls → AllWiresTold new (calls ++ closes conn ∷ [])
closed_told conn old new changes = λ calls all.
    told_on conn with_close old new calls (closes conn ∷ [])
    (λ t is. grows conn t (with_close t) calls (closes conn) [] [] true refl refl
    (eq-eqb conn conn refl)
    (sym (append-nil t.taken)) (sym (append-nil t.written))
    (sym (or-true t.closed)) is)
    (λ q two t is. quiet q t calls (closes conn) refl refl two is) changes all

unchanged_at : (conn : ℕ) (old new : BTreeMap ℕ Far) → Changes conn same_told old new → (q : ℕ)
    → told_at new q ≡ told_at old q
unchanged_at conn old new (at_far far now was set so keeps) q = ap (option_map told_by_far) (set q)
    ∙ by (nat_eq conn q) refl
  where
    by : (b : Bool) → nat_eq conn q ≡ b
        → option_map told_by_far (cond b (Some now) (far_at old q)) ≡ told_at old q
    by true e =
        ap Some so ∙ ap (option_map told_by_far) (sym was ∙ ap (far_at old) (eqb-true conn q e))
    by false e = refl
unchanged_at conn old new (no_far none same) q = ap (option_map told_by_far) (same q)

-- where a connection is the same, it is fresh still
pub still_fresh : (conn : ℕ) (old new : BTreeMap ℕ Far) → Changes conn same_told old new
    → AllFresh old → AllFresh new
still_fresh conn old new changes all =
    λ q. subst (λ (t : Option WireTold). IfSome t (λ u. u ≡ fresh_told)) (sym (same q)) (all q)
  where
    same : (q : ℕ) → told_at new q ≡ told_at old q
    same q = unchanged_at conn old new changes q

-- a new connection is fresh
pub added_fresh : (old new : BTreeMap ℕ Far) (conn : ℕ) (far : Far) → told_by_far far ≡ fresh_told
    → IsFarAdded old conn far new → AllFresh old → AllFresh new
added_fresh old new conn far fresh added all = λ q. subst (λ (f : Option Far). IfSome
    (option_map told_by_far f) (λ t. t ≡ fresh_told)) (sym (added q)) (by q (nat_eq conn q))
  where
    by : (q : ℕ) (b : Bool)
        → IfSome (option_map told_by_far (cond b (Some far) (far_at old q))) (λ t. t ≡ fresh_told)
    by q true = fresh
    by q false = all q

pub none_fresh : (fars : BTreeMap ℕ Far) → ((conn : ℕ) → far_at fars conn ≡ None) → AllFresh fars
none_fresh fars none = λ conn. subst (λ (f : Option Far). IfSome (option_map told_by_far f)
    (λ t. t ≡ fresh_told)) (sym (none conn)) tt

-- fresh connections are as no call has been made
pub fresh_told_so : (fars : BTreeMap ℕ Far) → AllFresh fars → AllWiresTold fars []
fresh_told_so fars all = λ conn. by conn (far_at fars conn) (all conn)
  where
    by : (conn : ℕ) (f : Option Far) → IfSome (option_map told_by_far f) (λ t. t ≡ fresh_told)
        → IsToldAt conn f []
    by conn None is = tt
    by conn (Some far) is = record {
      taken_is = ap (λ (t : WireTold). t.taken) is;
      written_is = ap
          (λ (t : WireTold). t.written) is;
      closed_is = ap (λ (t : WireTold). t.closed) is;
    }
