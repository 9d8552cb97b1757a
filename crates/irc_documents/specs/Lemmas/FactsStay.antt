-- What each operation keeps of a document that it may be made in, networks keep of all documents.
use Rattle.std.proofs.Common.{◌≡◌, Bool, not, ◌&&◌, if◌then◌else◌, refl, sym, subst}
use Rattle.std.proofs.Common.{List, [], ◌∷◌}
use Rattle.irc_relay.specs.Links.{Name, same, AreLinked, linked}
use Rattle.irc_relay.specs.Lemmas.TellingNames.{Telling, alike, unlike, tell}
use Rattle.irc_documents.specs.Editing.{Editing, HasDiamond}
use Rattle.irc_documents.specs.Ends.{Message, told, only_count, became}
use Rattle.irc_documents.specs.Networks.{Net, Step, given, counts_to, read_from, made, lost, side}
use Rattle.irc_documents.specs.Networks.{done_at, taken, read_as, after, after_all, MayBe, AllMayBe}
use Rattle.irc_documents.specs.Networks.{StepsMeet}
use Rattle.irc_documents.specs.Laws.{IsSound}
use Rattle.irc_documents.specs.Lemmas.LinksInFlight.{meets_far, stays_read}
use Rattle.irc_documents.specs.Lemmas.NetworksRun.{step_keeps_sound, steps_meet_by_diamond}
use Rattle.irc_documents.specs.Lemmas.NetworksRun.{without_links}

-- each server's document is so
abbrev pub OfDocuments : {Doc Op : Type 0} → (Doc → Type 0) → Net Doc Op → Type 0
OfDocuments Fact net = (s : Name) → Fact (net.doc s)

-- each operation keeps it of a document in which it may be made
abbrev pub Keeps : {Doc Op : Type 0} → Editing Doc Op → (Doc → Type 0) → Type 0
Keeps {Doc = Doc} {Op = Op} e Fact = (s : Doc) (op : Op) → e.may s op → Fact s → Fact (e.done s op)

module _ {Doc Op : Type 0} (e : Editing Doc Op) (d : HasDiamond e) (Fact : Doc → Type 0)
    (keeps : Keeps e Fact) where
  done_keeps : (net : Net Doc Op) (s : Name) (hears : Name → Bool) (op : Op)
      → e.may (net.doc s) op → OfDocuments Fact net → OfDocuments Fact (done_at e net s hears op)
  done_keeps net s hears op may all x = by (tell x s)
    where
      by : Telling x s → Fact (if same x s then e.done (net.doc x) op else net.doc x)
      by (alike test is) =
          subst (λ b. Fact (if b then e.done (net.doc x) op else net.doc x)) (sym test)
          (keeps (net.doc x) op (subst (λ it. e.may (net.doc it) op) (sym is) may) (all x))
      by (unlike test differ) =
          subst (λ b. Fact (if b then e.done (net.doc x) op else net.doc x)) (sym test) (all x)

  read_keeps : (net : Net Doc Op) (s t : Name) → AreLinked net.links s t → IsSound e net
      → (queue : List (Message Op)) → net.queue s t ≡ queue → OfDocuments Fact net
      → OfDocuments Fact (read_as e queue net s t)
  read_keeps net s t linked_so sound [] first all = all
  read_keeps net s t linked_so sound (told count op ∷ queue) first all =
      done_keeps (taken e net s t (told count op) queue) t
      (λ u. linked net.links t u && not (same u s)) (became e (net.end t s) count op)
      (stays_read e (side net s t) (side net t s) count op queue first
      (meets_far e d (side net s t) (side net t s) count op queue first
      (sound.in_flight s t linked_so)) (sound.in_flight s t linked_so)).may all
  read_keeps net s t linked_so sound (only_count count ∷ queue) first all = all

  step_keeps : (net : Net Doc Op) (step : Step Op) → MayBe e net step → IsSound e net
      → OfDocuments Fact net → OfDocuments Fact (after e net step)
  step_keeps net (given s op) may sound all = done_keeps net s (linked net.links s) op may all
  step_keeps net (counts_to s t) may sound all = all
  step_keeps net (read_from s t) may sound all =
      read_keeps net s t may sound (net.queue s t) refl all
  step_keeps net (made l near far) may sound all = all
  step_keeps net (lost s t) may sound all = all

  steps_keep : (net : Net Doc Op) (steps : List (Step Op)) → AllMayBe e net steps
      → StepsMeet e net steps → IsSound e net → OfDocuments Fact net
      → OfDocuments Fact (after_all e net steps)
  steps_keep net [] may meets sound all = all
  steps_keep net (step ∷ steps) may meets sound all =
      steps_keep (after e net step) steps may.1 meets.1
      (step_keeps_sound e net step may.0 meets.0 sound) (step_keeps net step may.0 sound all)

  pub facts_stay : (start : Net Doc Op) (steps : List (Step Op)) → start.links ≡ []
      → AllMayBe e start steps → OfDocuments Fact start
      → OfDocuments Fact (after_all e start steps)
  facts_stay start steps none may =
      steps_keep start steps may (steps_meet_by_diamond e d start steps none may)
      (without_links e start none)
