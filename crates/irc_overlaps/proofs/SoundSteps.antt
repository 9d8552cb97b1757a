-- Whatever happens, the links are a forest, and just those are linked that have the two ends of
-- one.
use Rattle.std.proofs.Common.{◌≡◌, ℕ, Some, List, [], ◌∷◌, sym, ap, subst}
use Rattle.irc_batch.specs.Batches.{Sent, line_to, end_of, line_on, end_of_link}
use Rattle.irc_relay.specs.Links.{Name, AreLinked, IsForest}
use Rattle.irc_server.specs.declared.event.Event.{Event}
use Rattle.irc_overlaps.specs.Networks.{Net, end_at, all_sent_out, with_layer}
use Rattle.irc_overlaps.specs.Networks.{sent_out}
use Rattle.irc_overlaps.specs.Rest.{IsNew, IsSound}
use Rattle.irc_overlaps.specs.Steps.{IsDelivered, IsGiven, IsMade, Run}
use Rattle.irc_overlaps.specs.Steps.{no_step, one_step, Step, given, delivered, made, lost}
use Rattle.irc_overlaps.specs.Laws.{RunsAreSound, StepKeepsSound}
use Rattle.irc_overlaps.proofs.AtEnds.{no_end}
use Rattle.irc_overlaps.proofs.SoundEnds.{fewer_sound, joining_sound, sending_sound}
use Rattle.irc_overlaps.proofs.SoundEnds.{without_end_sound}

pub one_sound : (s : Name) (sent : Sent) (net : Net) → IsSound net → IsSound (sent_out s sent net)
one_sound s (line_to conn line) net sound = sound
one_sound s (end_of conn) net sound = sound
one_sound s (line_on n line) net sound = sending_sound net sound s n line
one_sound s (end_of_link n reason) net sound = without_end_sound net sound s n

pub all_sound : (s : Name) (outs : List Sent) (net : Net) → IsSound net
    → IsSound (all_sent_out s outs net)
all_sound s [] net sound = sound
all_sound s (sent ∷ outs) net sound =
    all_sound s outs (sent_out s sent net) (one_sound s sent net sound)

pub given_sound : (s : Name) (event : Event) (old new : Net) → IsSound old
    → IsGiven s event old new → IsSound new
given_sound s event old new sound g =
    subst IsSound (sym g.new_is) (all_sound s g.outs (with_layer s g.layer old) sound)

delivered_sound : (s : Name) (n : ℕ) (old new : Net) → IsSound old → IsDelivered s n old new
    → IsSound new
delivered_sound s n old new sound d =
    given_sound s _ _ new (fewer_sound old sound s n d.line d.more d.on_its_way) d.is_given

made_sound : (s : Name) (n : ℕ) (t : Name) (m : ℕ) (old new : Net) → IsSound old
    → IsMade s n t m old new → IsSound new
made_sound s n t m old new sound d =
    given_sound t _ d.between new
    (given_sound s _ _ d.between
    (joining_sound old sound s t n m d.apart d.near_free d.far_free) d.near_given) d.far_given

pub step_keeps_sound : StepKeepsSound
step_keeps_sound (given s event) old new d sound =
    given_sound s event old new sound d.is_given
step_keeps_sound (delivered s n) old new d sound = delivered_sound s n old new sound d
step_keeps_sound (made s n t m) old new d sound = made_sound s n t m old new sound d
step_keeps_sound (lost s n) old new d sound =
    given_sound s _ _ new (without_end_sound old sound s n) d.is_given

-- ---- from a network that begins

new_sound : (net : Net) → IsNew net → IsSound net
new_sound net new = record {
  forest = subst IsForest (sym new.no_links) tt;
  numbers = λ s t h. absurd (subst (λ links. AreLinked links s t) new.no_links h);
  linked = λ s t n m one. absurd (never s n t m one.forth);
  one = λ s t n m k l one _. absurd (never s n t m one.forth);
  none_coming = λ s n _. ap (λ coming. coming s n) new.none_coming;
}
  where
    never : (s : Name) (n : ℕ) (t : Name) (m : ℕ) → net.other s n ≡ Some (end_at t m) → ⊥
    never s n t m e = no_end (net.other s n) t m (ap (λ other. other s n) new.no_ends) e

run_sound : (steps : List Step) (old new : Net) → IsSound old → Run steps old new → IsSound new
run_sound [] old new sound no_step = sound
run_sound (step ∷ steps) old new sound (one_step {between} h rest) =
    run_sound steps between new (step_keeps_sound step old between h sound) rest

pub runs_are_sound : RunsAreSound
runs_are_sound steps old new begins run = run_sound steps old new (new_sound old begins) run
