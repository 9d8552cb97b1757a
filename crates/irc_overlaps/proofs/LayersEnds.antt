-- The ends of a network are just those that the layers have, whatever happens.
use Rattle.std.proofs.Common.{◌≡◌, ◌≢◌, ℕ, Bool, true, false, not, ◌&&◌, ◌||◌, is_some, Option}
use Rattle.std.proofs.Common.{Some, None, List, [], ◌∷◌, nat_eq, if◌then◌else◌, inl, inr}
use Rattle.std.proofs.Common.{refl, sym, ap, subst, ◌∙◌}
use Rattle.std.proofs.lemmas.Bool.Decides.{eqb_tells}
use Rattle.irc_batch.specs.Batches.{Sent, line_to, end_of, line_on, end_of_link}
use Rattle.irc_relay.specs.Links.{Name, part}
use Rattle.irc_relay.specs.Lemmas.TellingNames.{alike, unlike, tell, same_when, same_unless}
use Rattle.irc_server.specs.Connected.{ends_link, is_link_ended}
use Rattle.irc_server.specs.declared.event.Event.{Event}
use Rattle.irc_server.specs.declared.event.Event.TheVariants.{Connect, Line, Gone, LinkUp, LinkLine}
use Rattle.irc_server.specs.declared.event.Event.TheVariants.{LinkDown}
use Rattle.irc_layer.specs.Ends.{ends_followed, new_end, Ends}
use Rattle.irc_layer.specs.Layers.{by_itself, LayerView, Passes, passes, hears}
use Rattle.irc_overlaps.specs.Networks.{Net, EndAt, end_at, all_sent_out, far_end, joining}
use Rattle.irc_overlaps.specs.Networks.{sent_out, with_at, with_layer, without_end}
use Rattle.irc_overlaps.specs.Rest.{HaveTheirEnds, IsNew}
use Rattle.irc_overlaps.specs.Steps.{HasGiven, HasHandled, IsGiven, IsLost}
use Rattle.irc_overlaps.specs.Steps.{IsMade, Run, Step, given, delivered, made, lost}
use Rattle.irc_overlaps.specs.Steps.{no_step, one_step, is_of_client}
use Rattle.irc_overlaps.specs.Laws.{RunsHaveTheirEnds, StepKeepsEnds}
use Rattle.irc_overlaps.proofs.AtEnds.{with_at-it, with_at-other}
use Rattle.irc_overlaps.proofs.EndsInStep.{all_there, both, hears_if, stays, InStep}
use Rattle.irc_overlaps.proofs.PutOut.{all_layers, sending_other}

-- ---- one layer

-- by any event: the ends that are followed, but for those that are closed
abbrev FollowsEnds : LayerView → Event → List Sent → LayerView → Type 0
FollowsEnds old event outs new = (n : ℕ) → is_some (new.ends n)
    ≡ (is_some (ends_followed event old.plain old.ends n) && not (is_link_ended n outs))

by_passing : (old new : LayerView) (event : Event) (outs : List Sent)
    → Passes by_itself event (record { layer = old; outs = [] })
    (record { layer = new; outs = outs })
    → FollowsEnds old event outs new
by_passing old new event outs p n =
    ap (λ (ends : Ends). is_some (ends n)) p.ends_are
    ∙ all_there n by_itself p.outs (ends_followed event old.plain old.ends)
    ∙ ap (λ o. is_some (ends_followed event old.plain old.ends n) && not (is_link_ended n o))
    (sym p.outs_are)

by_hearing : (old new : LayerView) (event : Event) (outs : List Sent) (link : ℕ) (line : List ℕ)
    → event ≡ LinkLine link (record { items = line })
    → InStep (record { layer = old; outs = [] }) (record { layer = new; outs = outs })
    → FollowsEnds old event outs new
by_hearing old new event outs link line e h =
    subst (λ event. FollowsEnds old event outs new) (sym e)
    (λ n. h.ends_are n ∙ ap (λ o. is_some (old.ends n) && not (is_link_ended n o)) (sym h.outs_are))

handled_ends : (old new : LayerView) (event : Event) (outs : List Sent)
    → HasHandled old event outs new → FollowsEnds old event outs new
handled_ends old new event outs (passes _ p) = by_passing old new event outs p
handled_ends old new event outs (hears link line e _ h) =
    by_hearing old new event outs link line e (hears_if link (old.ends link) line
    (record { layer = old; outs = [] }) (record { layer = new; outs = outs }) h)

-- ---- what is put out, in the network

closed : (there : Bool) (b : Bool) → b ≡ true → false ≡ (there && not (b || false))
closed true b e = ap (λ b. not (b || false)) (sym e)
closed false b e = refl

kept : (there : Bool) (b : Bool) → b ≡ false → there ≡ (there && not (b || false))
kept true b e = ap (λ b. not (b || false)) (sym e)
kept false b e = refl

one_other : (s : Name) (sent : Sent) (net : Net) (n : ℕ)
    → is_some ((sent_out s sent net).other s n)
    ≡ (is_some (net.other s n) && not (is_link_ended n (sent ∷ [])))
one_other s (line_to conn line) net n = stays (is_some (net.other s n))
one_other s (end_of conn) net n = stays (is_some (net.other s n))
one_other s (line_on k line) net n =
    ap (λ other. is_some (other s n)) (sending_other (far_end net s k) line net)
    ∙ stays (is_some (net.other s n))
one_other s (end_of_link k reason) net n = elim (eqb_tells k n) [
  | inl p ↦ ap is_some (with_at-it s k None net.other s n refl (sym p.1))
      ∙ closed (is_some (net.other s n)) (nat_eq k n) p.0
  | inr p ↦ ap is_some (with_at-other s k None net.other s n (λ e f. p.1 (sym f)))
      ∙ kept (is_some (net.other s n)) (nat_eq k n) p.0
]

in_one : (n : ℕ) (sent : Sent) (outs : List Sent)
    → (is_link_ended n (sent ∷ []) || is_link_ended n outs) ≡ is_link_ended n (sent ∷ outs)
in_one n sent outs = list_any_in_one (ends_link n sent) (is_link_ended n outs)
  where
    list_any_in_one : (a b : Bool) → ((a || false) || b) ≡ (a || b)
    list_any_in_one true b = refl
    list_any_in_one false b = refl

all_others : (s : Name) (outs : List Sent) (net : Net) (n : ℕ)
    → is_some ((all_sent_out s outs net).other s n)
    ≡ (is_some (net.other s n) && not (is_link_ended n outs))
all_others s [] net n = stays (is_some (net.other s n))
all_others s (sent ∷ outs) net n =
    all_others s outs (sent_out s sent net) n
    ∙ ap (λ b. b && not (is_link_ended n outs)) (one_other s sent net n)
    ∙ both (is_some (net.other s n)) (is_link_ended n (sent ∷ [])) (is_link_ended n outs)
    ∙ ap (λ b. is_some (net.other s n) && not b) (in_one n sent outs)

elsewhere : (s x : Name) → x ≢ s → (sent : Sent) (net : Net) (n : ℕ)
    → (sent_out s sent net).other x n ≡ net.other x n
elsewhere s x m (line_to conn line) net n = refl
elsewhere s x m (end_of conn) net n = refl
elsewhere s x m (line_on k line) net n =
    ap (λ other. other x n) (sending_other (far_end net s k) line net)
elsewhere s x m (end_of_link k reason) net n =
    with_at-other s k None net.other x n (λ e f. m e)

all_elsewhere : (s x : Name) → x ≢ s → (outs : List Sent) (net : Net) (n : ℕ)
    → (all_sent_out s outs net).other x n ≡ net.other x n
all_elsewhere s x m [] net n = refl
all_elsewhere s x m (sent ∷ outs) net n =
    all_elsewhere s x m outs (sent_out s sent net) n ∙ elsewhere s x m sent net n

-- ---- a server is given an event

-- the ends of a server in the network are those that are followed from its layer's by the event
abbrev Follows : Name → Event → Net → ℕ → Type 0
Follows s event net n =
    is_some (ends_followed event (net.layer s).plain (net.layer s).ends n) ≡ is_some (net.other s n)

-- a server has its ends
abbrev Has : Name → Net → ℕ → Type 0
Has s net n = is_some ((net.layer s).ends n) ≡ is_some (net.other s n)

module _ (s : Name) (event : Event) (old new : Net) (g : IsGiven s event old new) where
  abbrev taken : Net
  taken = with_layer s g.layer old

  layer_is : (x : Name) → new.layer x ≡ taken.layer x
  layer_is x =
      ap (λ (net : Net). net.layer x) g.new_is ∙ ap (λ layer. layer x) (all_layers s g.outs taken)

  given_here : (n : ℕ) → Follows s event old n → Has s new n
  given_here n f =
      ap (λ (layer : LayerView). is_some (layer.ends n)) (layer_is s
      ∙ ap (λ b. if b then g.layer else old.layer s) (same_when s s refl))
      ∙ handled_ends (old.layer s) g.layer event g.outs g.handled n
      ∙ ap (λ b. b && not (is_link_ended n g.outs)) f
      ∙ sym (all_others s g.outs taken n)
      ∙ ap (λ (net : Net). is_some (net.other s n)) (sym g.new_is)

  layer_there : (x : Name) → x ≢ s → new.layer x ≡ old.layer x
  layer_there x m = layer_is x ∙ ap (λ b. if b then g.layer else old.layer x) (same_unless x s m)

  other_there : (x : Name) (n : ℕ) → x ≢ s → new.other x n ≡ old.other x n
  other_there x n m =
      ap (λ (net : Net). net.other x n) g.new_is ∙ all_elsewhere s x m g.outs taken n

  given_there : (x : Name) (n : ℕ) → x ≢ s → Has x old n → Has x new n
  given_there x n m have =
      ap (λ (layer : LayerView). is_some (layer.ends n)) (layer_there x m)
      ∙ have ∙ ap is_some (sym (other_there x n m))

  given_keeps : ((n : ℕ) → Follows s event old n) → ((x : Name) (n : ℕ) → x ≢ s → Has x old n)
      → HaveTheirEnds new
  given_keeps here there x n = elim (tell x s) [
    | alike _ e ↦ subst (λ v. Has v new n) (sym e) (given_here n (here n))
    | unlike _ m ↦ given_there x n m (there x n m)
  ]

-- ---- what is followed

client_follows : (s : Name) (event : Event) (net : Net) → is_of_client event ≡ true
    → (n : ℕ) → Has s net n → Follows s event net n
client_follows s (Connect conn host) net e n have = have
client_follows s (Line conn line) net e n have = have
client_follows s (Gone conn) net e n have = have
client_follows s (LinkUp k called) net e n have = cc
client_follows s (LinkLine k line) net e n have = cc
client_follows s (LinkDown k) net e n have = cc

lost_follows : (s : Name) (n : ℕ) (net : Net) (k : ℕ) → Has s net k
    → Follows s (LinkDown n) (without_end s n net) k
lost_follows s n net k have = elim (eqb_tells n k) [
  | inl p ↦ ap (λ b. is_some (if b then None else (net.layer s).ends k)) p.0
      ∙ ap is_some (sym (with_at-it s n None net.other s k refl (sym p.1)))
  | inr p ↦ ap (λ b. is_some (if b then None else (net.layer s).ends k)) p.0
      ∙ have ∙ ap is_some (sym (with_at-other s n None net.other s k (λ e f. p.1 (sym f))))
]

-- an end that begins is there for its layer once it is told
begun : (layer : LayerView) (s : Name) (n : ℕ) (called : Option Name)
    (other : Name → ℕ → Option EndAt) (far : EndAt) (k : ℕ)
    → is_some (layer.ends k) ≡ is_some (other s k)
    → is_some (ends_followed (LinkUp n called) layer.plain layer.ends k)
    ≡ is_some (with_at s n (Some far) other s k)
begun layer s n called other far k have = elim (eqb_tells n k) [
  | inl p ↦ ap (λ b. is_some (if b then Some (new_end called layer.plain) else layer.ends k)) p.0
      ∙ ap is_some (sym (with_at-it s n (Some far) other s k refl (sym p.1)))
  | inr p ↦ ap (λ b. is_some (if b then Some (new_end called layer.plain) else layer.ends k)) p.0
      ∙ have ∙ ap is_some (sym (with_at-other s n (Some far) other s k (λ e f. p.1 (sym f))))
]

-- ---- the steps

given_step : (s : Name) (event : Event) (old new : Net) → HaveTheirEnds old
    → HasGiven s event old new → HaveTheirEnds new
given_step s event old new have d = given_keeps s event old new d.is_given
    (λ n. client_follows s event old d.of_client n (have s n)) (λ x n m. have x n)

lost_step : (s : Name) (n : ℕ) (old new : Net) → HaveTheirEnds old → IsLost s n old new
    → HaveTheirEnds new
lost_step s n old new have d = given_keeps s (LinkDown n) (without_end s n old) new d.is_given
    (λ k. lost_follows s n old k (have s k))
    (λ x k m. have x k ∙ ap is_some (sym (with_at-other s n None old.other x k (λ e f. m e))))

module _ (s : Name) (n : ℕ) (t : Name) (m : ℕ) (old new : Net) (have : HaveTheirEnds old)
    (d : IsMade s n t m old new)
  where
    two : s ≢ t
    two e = d.apart (ap (part old.links) e)

    abbrev made_far : Name → ℕ → Option EndAt
    made_far = with_at t m (Some (end_at s n)) old.other

    abbrev begins : Net
    begins = joining s n t m old

    abbrev up : Event
    up = LinkUp n (Some t)

    -- the two ends in the network that the first is told of
    near_other : (k : ℕ) → is_some ((old.layer s).ends k) ≡ is_some (made_far s k)
    near_other k = have s k
        ∙ ap is_some (sym (with_at-other t m (Some (end_at s n)) old.other s k (λ e f. two e)))

    near_has : (k : ℕ) → Has s d.between k
    near_has k = given_here s up begins d.between d.near_given k
        (begun (old.layer s) s n (Some t) made_far (end_at t m) k (near_other k))

    far_other : (k : ℕ) → begins.other t k ≡ made_far t k
    far_other k = with_at-other s n (Some (end_at t m)) made_far t k (λ e f. two (sym e))

    far_follows : (k : ℕ) → Follows t (LinkUp m None) d.between k
    far_follows k =
        ap (λ (layer : LayerView). is_some (ends_followed (LinkUp m None) layer.plain layer.ends k))
        (layer_there s up begins d.between d.near_given t (λ e. two (sym e)))
        ∙ begun (old.layer t) t m None old.other (end_at s n) k (have t k)
        ∙ ap is_some (sym (far_other k))
        ∙ ap is_some (sym (other_there s up begins d.between d.near_given t k (λ e. two (sym e))))

    others_have : (x : Name) (k : ℕ) → x ≢ t → Has x d.between k
    others_have x k away = elim (tell x s) [
      | alike _ e ↦ subst (λ v. Has v d.between k) (sym e) (near_has k)
      | unlike _ apart ↦ given_there s up begins d.between d.near_given x k apart
          (have x k ∙ ap is_some (sym (
          with_at-other s n (Some (end_at t m)) made_far x k (λ e f. apart e)
          ∙ with_at-other t m (Some (end_at s n)) old.other x k (λ e f. away e))))
    ]

    made_step : HaveTheirEnds new
    made_step = given_keeps t (LinkUp m None) d.between new d.far_given far_follows
        (λ x k away. others_have x k away)

pub step_keeps_ends : StepKeepsEnds
step_keeps_ends (given s event) old new d have = given_step s event old new have d
step_keeps_ends (delivered s n) old new d have = given_keeps s _ _ new d.is_given
    (λ k. have s k) (λ x k m. have x k)
step_keeps_ends (made s n t m) old new d have = made_step s n t m old new have d
step_keeps_ends (lost s n) old new d have = lost_step s n old new have d

-- ---- from a network that begins

new_have : (net : Net) → IsNew net → HaveTheirEnds net
new_have net new s n =
    ap (λ (ends : Ends). is_some (ends n)) (new.layers s).no_ends
    ∙ ap (λ (other : Name → ℕ → Option EndAt). is_some (other s n)) (sym new.no_ends)

run_keeps : (steps : List Step) (old new : Net) → HaveTheirEnds old → Run steps old new
    → HaveTheirEnds new
run_keeps [] old new have no_step = have
run_keeps (step ∷ steps) old new have (one_step {between} h rest) =
    run_keeps steps between new (step_keeps_ends step old between h have) rest

pub runs_have_their_ends : RunsHaveTheirEnds
runs_have_their_ends steps old new begins run = run_keeps steps old new (new_have old begins) run
