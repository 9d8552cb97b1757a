-- What is begun can be run to its end: what was printed then is a front of what the whole script
-- prints.
use Rattle.std.proofs.Common.{ℕ, List, [], ◌∷◌, ◌++◌, ap, sym, subst, refl, ◌∙◌, append_assoc}
use Rattle.std.specs.List.{AllByRecursion}
use Rattle.irc_net.specs.ByteNetwork.{ByteNetwork}
use Rattle.irc_net.specs.Faults.{deliver_fault, item_fault}
use Rattle.irc_net.specs.Laws.{EachSettles, StaysKept}
use Rattle.irc_net.specs.OneRoom.{IsKeptSound}
use Rattle.irc_script.specs.Loops.Steps.{Begins, to_the_end, partly, further, RunOn, ScriptsRunOn}
use Rattle.irc_script.specs.Moves.{Move, gives, delivers_line, takes_bytes, settles_all, moves_of}
use Rattle.irc_script.specs.Printing.{taken_text}
use Rattle.irc_script.specs.RunLaws.{EachRuns}
use Rattle.irc_script.specs.Runs.{Comes, MoveOutcome, Plays, nothing, move, end, request, given_or}
use Rattle.irc_script.specs.Runs.{delivered_or, taken_or}
use Rattle.irc_script.specs.Scripts.{Request}
use Rattle.irc_script.proofs.OneRoomPrinted.{first_kept}
use Rattle.irc_script.proofs.Playing.{plays_both}
use Rattle.irc_script.proofs.ReadWithin.{front_within, left_within, read_within}
use Rattle.irc_script.proofs.StaysSound.{IsMoveWithin, IsRequestWithin, comes_kept, plays_kept}

record Answered (net : ByteNetwork) (m : Move) : Type 0 where
  outcome : MoveOutcome
  comes : Comes net m outcome

-- something comes of each move of a sound network
answered : EachSettles → (net : ByteNetwork) (m : Move) → IsKeptSound net → Answered net m
answered settles net (gives item) kept =
    record { outcome = given_or (item_fault net item) item net; comes = refl }
answered settles net (delivers_line from to) kept =
    record { outcome = delivered_or (deliver_fault net from to) from to net; comes = refl }
answered settles net (takes_bytes from to count) kept =
    record { outcome = taken_or (deliver_fault net from to) from to count net; comes = refl }
answered settles net settles_all kept =
    let settled = settles net kept in
    record {
      outcome =
          record { text = taken_text settled.counted settled.receipts; network = settled.last };
      comes = record {
        count = settled.counted;
        receipts = settled.receipts;
        settles = settled.settles;
        text_is = refl;
      };
    }

-- networks stay sound, and settle
pub record AreRunning : Type 0 where
  pub keeping : StaysKept
  pub settles : EachSettles

record PlayedOn (first : ByteNetwork) (moves : List Move) : Type 0 where
  last : ByteNetwork
  text : List ℕ
  plays : Plays first moves last text

play_on : AreRunning → (moves : List Move) (first : ByteNetwork) → AllByRecursion IsMoveWithin moves
    → IsKeptSound first → PlayedOn first moves
play_on laws [] first within kept = record { last = first; text = []; plays = nothing }
play_on laws (m ∷ moves) first within kept =
    let one = answered laws.settles first m kept in
    let more = play_on laws moves one.outcome.network within.1
    (comes_kept laws.keeping first m one.outcome within.0 one.comes kept) in
    record {
      last = more.last;
      text = one.outcome.text ++ more.text;
      plays = move one.outcome one.comes refl more.plays;
    }

run_on : AreRunning → (requests : List Request) (first : ByteNetwork)
    → AllByRecursion IsRequestWithin requests → IsKeptSound first → RunOn first requests []
run_on laws [] first within kept =
    record { last = first; whole = []; runs = end; front = record { more = []; whole_is = refl } }
run_on laws (r ∷ requests) first within kept =
    let one = play_on laws (moves_of r) first within.0 kept in
    let more =
    run_on laws requests one.last within.1 (plays_kept laws.keeping within.0 one.plays kept) in
    record {
      last = more.last;
      whole = one.text ++ more.whole;
      runs = request refl one.plays more.runs;
      front = record { more = one.text ++ more.whole; whole_is = refl };
    }

run_whole : AreRunning → {first : ByteNetwork} {requests : List Request} {text : List ℕ}
    → AllByRecursion IsRequestWithin requests → IsKeptSound first → Begins first requests text
    → RunOn first requests text
run_whole laws {first = first} within kept to_the_end =
    record { last = first; whole = []; runs = end; front = record { more = []; whole_is = refl } }
run_whole laws {first = first} {text = text} within kept
    (partly {last = last} {requests = requests} moves left parts plays) =
    let each = subst (AllByRecursion IsMoveWithin) parts within.0 in
    let middle = plays_kept laws.keeping (front_within IsMoveWithin moves left each) plays kept in
    let on = play_on laws left last (left_within IsMoveWithin moves left each) middle in
    let all = subst (λ ms. Plays first ms on.last (text ++ on.text)) (sym parts)
    (plays_both plays on.plays) in
    let more = run_on laws requests on.last within.1 (plays_kept laws.keeping within.0 all kept) in
    record {
      last = more.last;
      whole = (text ++ on.text) ++ more.whole;
      runs = request refl all more.runs;
      front =
          record { more = on.text ++ more.whole; whole_is = append_assoc text on.text more.whole };
    }
run_whole laws within kept (further {start = start} {more = text} text_is plays begins) =
    let rest = run_whole laws within.1 (plays_kept laws.keeping within.0 plays kept) begins in
    record {
      last = rest.last;
      whole = start ++ rest.whole;
      runs = request refl plays rest.runs;
      front = record {
        more = rest.front.more;
        whole_is =
            ap (λ w. start ++ w) rest.front.whole_is ∙ sym (append_assoc start text rest.front.more)
            ∙ ap (λ t. t ++ rest.front.more) (sym text_is);
      };
    }

-- ---- a script that is read

pub script_runs : AreRunning → EachRuns
script_runs laws text asked read =
    let run = run_on laws asked.requests _ (read_within text asked read)
    (first_kept laws.keeping text asked read) in
    record { last = run.last; text = run.whole; runs = run.runs }

pub script_runs_on : AreRunning → ScriptsRunOn
script_runs_on laws text asked printed read begins =
    run_whole laws (read_within text asked read) (first_kept laws.keeping text asked read) begins
