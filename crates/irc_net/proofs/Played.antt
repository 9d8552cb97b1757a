-- What is played has run, step by step.
use Rattle.std.proofs.Common.{◌≡◌, ℕ, arith, Bool, true, false, Option, Some, None, Ok, Err}
use Rattle.std.proofs.Common.{List, [], ◌∷◌, ◌++◌, ◌+◌, length, refl, sym, ◌∙◌, ap, subst}
use Rattle.std.proofs.Common.{option_map, if◌then◌else◌}
use Rattle.std.proofs.lemmas.List.{append-nil, append_assoc, length-append}
use Rattle.std.specs.List.{AllByRecursion}
use Rattle.std.proofs.Math.Bool.{false≢true}
use Rattle.std.proofs.lemmas.Option.{none-some, same_Some}
use Rattle.irc_relay.specs.Links.{Name}
use Rattle.irc_routes.specs.declared.programs.Programs.{Programs}
use Rattle.irc_server.specs.declared.config.Config.{Config}
use Rattle.irc_world.specs.Refused.{Refusal, link_refused, no_such_client, no_such_server}
use Rattle.irc_world.specs.Refused.{not_linked}
use Rattle.irc_world.specs.Stepping.{Item}
use Rattle.irc_world.specs.WithinLimits.{IsItemWithin}
use Rattle.irc_net.specs.declared.fault.NetFault.{NetFault}
use Rattle.irc_net.specs.declared.fault.NetFault.TheVariants.{NotAtRest}
use Rattle.irc_net.specs.declared.step.Step.{Step}
use Rattle.irc_net.specs.declared.step.Step.TheVariants.{Bytes, Deliver, Give, Settle}
use Rattle.irc_net.specs.declared.step.StepAnswer.{StepAnswer}
use Rattle.irc_net.specs.declared.step.StepAnswer.TheVariants.{Delivered, Given, Refused, Settled}
use Rattle.irc_net.specs.declared.step.StepAnswer.TheVariants.{Taken}
use Rattle.irc_net.specs.Calls.{ArePlayed, Breaks, BytesTaken, IsDelivered, IsGiven}
use Rattle.irc_net.specs.Calls.{IsStep, NetView, PlaysSteps}
use Rattle.irc_net.specs.Calls as calls
use Rattle.irc_net.specs.Faults.{deliver_fault, fault_by, is_refusal, item_fault}
use Rattle.irc_net.specs.Played.{PlayIsRun, item_taken, items_taken}
use Rattle.irc_net.specs.Running.{HasRun, delivered, given, settled, taken}
use Rattle.irc_network.specs.ByteNetwork.{ByteNetwork, is_byte_rest}
use Rattle.irc_network.specs.Refusing.{fault_at_rest, way_fault}

-- ---- a refusal is no want of memory

refusal_of_world : (o : Option Refusal) (fault : NetFault) → option_map fault_by o ≡ Some fault
    → is_refusal fault ≡ true
refusal_of_world None fault is = absurd (none-some fault is)
refusal_of_world (Some refusal) fault is =
    subst (λ f. is_refusal f ≡ true) (same_Some (fault_by refusal) fault is) (by refusal)
  where
    by : (refusal : Refusal) → is_refusal (fault_by refusal) ≡ true
    by no_such_server = refl
    by no_such_client = refl
    by not_linked = refl
    by link_refused = refl

item_refused : (net : ByteNetwork) (item : Item) (fault : NetFault)
    → item_fault net item ≡ Some fault → is_refusal fault ≡ true
unfolding item_fault
item_refused net item fault is = by (is_byte_rest net) is
  where
    by : (b : Bool) → (if b then option_map fault_by (fault_at_rest net.network item)
        else Some NotAtRest) ≡ Some fault → is_refusal fault ≡ true
    by true is = refusal_of_world (fault_at_rest net.network item) fault is
    by false is = subst (λ f. is_refusal f ≡ true) (same_Some NotAtRest fault is) refl

way_refused : (net : ByteNetwork) (from to : Name) (fault : NetFault)
    → deliver_fault net from to ≡ Some fault → is_refusal fault ≡ true
unfolding deliver_fault
way_refused net from to fault is = refusal_of_world (way_fault net.network from to) fault is

-- ---- a step that is refused changes nothing

item_stays : (old new : NetView) (item : Item) (fault : NetFault) → IsGiven old item (Err fault) new
    → is_refusal fault ≡ true → old ≡ new
item_stays old new item fault (calls.given_refused stands why) refusal = refl
item_stays old new item fault (calls.given_wants_memory stands none failed) refusal =
    absurd (false≢true refusal)
item_stays old new item fault (calls.given_to_failed failed) refusal = absurd (false≢true refusal)

delivery_stays : (old new : NetView) (from to : Name) (fault : NetFault)
    → IsDelivered old from to (Err fault) new → is_refusal fault ≡ true → old ≡ new
delivery_stays old new from to fault (calls.delivery_refused stands why) refusal = refl
delivery_stays old new from to fault (calls.delivery_wants_memory stands none failed) refusal =
    absurd (false≢true refusal)
delivery_stays old new from to fault (calls.delivery_by_failed failed) refusal =
    absurd (false≢true refusal)

bytes_stay : (old new : NetView) (from to : Name) (count : ℕ) (fault : NetFault)
    → BytesTaken old from to count (Err fault) new → is_refusal fault ≡ true → old ≡ new
bytes_stay old new from to count fault (calls.taking_refused stands why) refusal = refl
bytes_stay old new from to count fault (calls.taking_wants_memory stands none failed) refusal =
    absurd (false≢true refusal)
bytes_stay old new from to count fault (calls.taking_by_failed failed) refusal =
    absurd (false≢true refusal)

-- ---- one step

module _ (programs : Name → Programs) (configs : List Config) where
  nothing_more : (items : List Item) (net : NetView) → HasRun programs configs items net
      → HasRun programs configs (items ++ []) net
  nothing_more items net runs =
      subst (λ more. HasRun programs configs more net) (sym (append-nil items)) runs

  stays_so : (items : List Item) (old new : NetView) → HasRun programs configs items old → old ≡ new
      → HasRun programs configs (items ++ []) new
  stays_so items old new runs same =
      subst (HasRun programs configs (items ++ [])) same (nothing_more items old runs)

  step_runs : (items : List Item) (old new : NetView) (step : Step) (answer : StepAnswer)
      → HasRun programs configs items old → IsStep old step answer new
      → AllByRecursion IsItemWithin (item_taken step answer)
      → HasRun programs configs (items ++ item_taken step answer) new
  step_runs items old new (Give item) (Given answer) runs is within =
      given runs within.0 is refl
  step_runs items old new (Give item) (Refused fault) runs is within =
      stays_so items old new runs (item_stays old new _ fault is.0 is.1)
  step_runs items old new (Deliver from to) (Delivered was_taken lines) runs is within =
      nothing_more items new (delivered runs is)
  step_runs items old new (Deliver from to) (Refused fault) runs is within =
      stays_so items old new runs (delivery_stays old new from to fault is.0 is.1)
  step_runs items old new (Bytes from to count) (Taken came lines) runs is within =
      nothing_more items new (taken runs is)
  step_runs items old new (Bytes from to count) (Refused fault) runs is within =
      stays_so items old new runs (bytes_stay old new from to count fault is.0 is.1)
  step_runs items old new Settle (Settled counted lines) runs is within =
      nothing_more items new (settled runs is)
  step_runs items old new step answer runs is within = absurd is

-- ---- steps in turn

as_many : {old new : NetView} {steps : List Step} {answers : List StepAnswer}
    → PlaysSteps old steps answers new → length steps ≡ length answers
as_many calls.none_yet = refl
as_many
    (calls.then_one {steps = steps} {answers = answers} step answer before is all_are more_are) =
    ap length all_are ∙ length-append steps (step ∷ [])
    ∙ ap (λ n. n + 1) (as_many before)
    ∙ sym (ap length more_are ∙ length-append answers (answer ∷ []))

one_behind : (steps : List Step) (answers : List StepAnswer) (step : Step) (answer : StepAnswer)
    → length steps ≡ length answers
    → items_taken (steps ++ step ∷ []) (answers ++ answer ∷ [])
    ≡ items_taken steps answers ++ item_taken step answer
one_behind [] [] step answer even = append-nil (item_taken step answer)
one_behind [] (first ∷ answers) step answer even = absurd (omega (arith, even))
one_behind (first ∷ steps) [] step answer even = absurd (omega (arith, even))
one_behind (first ∷ steps) (theirs ∷ answers) step answer even =
    ap (λ rest. item_taken first theirs ++ rest)
    (one_behind steps answers step answer (omega (arith, even)))
    ∙ sym (append_assoc (item_taken first theirs) (items_taken steps answers)
    (item_taken step answer))

all_parts : (front rest : List Item) → AllByRecursion IsItemWithin (front ++ rest)
    → AllByRecursion IsItemWithin front × AllByRecursion IsItemWithin rest
all_parts [] rest all = (tt, all)
all_parts (item ∷ front) rest all =
    let parts = all_parts front rest all.1 in ((all.0, parts.0), parts.1)

plays_run : (programs : Name → Programs) (configs : List Config) (items : List Item)
    {old new : NetView} {steps : List Step}
    {answers : List StepAnswer} → HasRun programs configs items old
    → PlaysSteps old steps answers new
    → AllByRecursion IsItemWithin (items_taken steps answers)
    → HasRun programs configs (items ++ items_taken steps answers) new
plays_run programs configs items {new = new} runs calls.none_yet within =
    nothing_more programs configs items new runs
plays_run programs configs items {new = new} runs
    (calls.then_one {between = between} {steps = steps} {all = all} {answers = answers}
    {more = more} step answer before is all_are more_are) within =
    let taken_are : items_taken all more ≡ items_taken steps answers ++ item_taken step answer =
    (λ i. items_taken (all_are i) (more_are i))
    ∙ one_behind steps answers step answer (as_many before) in
    let parts = all_parts (items_taken steps answers) (item_taken step answer)
    (subst (AllByRecursion IsItemWithin) taken_are within) in
    subst (λ more. HasRun programs configs more new)
    (append_assoc items (items_taken steps answers) (item_taken step answer)
    ∙ ap (λ more. items ++ more) (sym taken_are))
    (step_runs programs configs (items ++ items_taken steps answers) between new step answer
    (plays_run programs configs items runs before parts.0) is parts.1)

-- ---- a play that stops

breaks_it : (old new : NetView) (step : Step) (fault : NetFault) → Breaks old step fault new
    → is_refusal fault ≡ false → new.failed ≡ true
breaks_it old new (Give item) fault (calls.given_refused stands why) want =
    absurd (false≢true (sym want ∙ item_refused old.network _ fault why))
breaks_it old new (Give item) fault (calls.given_wants_memory stands none failed) want = failed
breaks_it old new (Give item) fault (calls.given_to_failed failed) want = failed
breaks_it old new (Deliver from to) fault (calls.delivery_refused stands why) want =
    absurd (false≢true (sym want ∙ way_refused old.network from to fault why))
breaks_it old new (Deliver from to) fault (calls.delivery_wants_memory stands none failed) want =
    failed
breaks_it old new (Deliver from to) fault (calls.delivery_by_failed failed) want = failed
breaks_it old new (Bytes from to count) fault (calls.taking_refused stands why) want =
    absurd (false≢true (sym want ∙ way_refused old.network from to fault why))
breaks_it old new (Bytes from to count) fault (calls.taking_wants_memory stands none failed) want =
    failed
breaks_it old new (Bytes from to count) fault (calls.taking_by_failed failed) want = failed
breaks_it old new Settle fault (calls.settling_wants_memory stands failed) want = failed
breaks_it old new Settle fault (calls.settling_by_failed failed) want = failed

play_stops : (old new : NetView) (steps : List Step) (fault : NetFault)
    → ArePlayed old steps (Err fault) new → new.failed ≡ true
play_stops old new steps fault (calls.stops_at stops) =
    breaks_it stops.between new stops.step fault stops.breaks stops.is_want
play_stops old new steps fault (calls.answers_want_memory failed) = failed

play_runs : (programs : Name → Programs) (configs : List Config) (items : List Item)
    (old new : NetView) (steps : List Step)
    (answers : List StepAnswer) → HasRun programs configs items old
    → ArePlayed old steps (Ok answers) new
    → AllByRecursion IsItemWithin (items_taken steps answers)
    → HasRun programs configs (items ++ items_taken steps answers) new
play_runs programs configs items old new steps answers runs (calls.plays_them plays) within =
    plays_run programs configs items runs plays within

pub play_is_run : PlayIsRun
play_is_run = record { runs = play_runs; stops = play_stops }
