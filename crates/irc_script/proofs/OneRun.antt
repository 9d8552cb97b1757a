-- A script runs in one way.
use Rattle.std.proofs.Common.{◌≡◌, ℕ, List, ◌++◌, ap, sym, subst, refl, ◌∙◌}
use Rattle.irc_net.specs.ByteNetwork.{ByteNetwork}
use Rattle.irc_script.specs.Moves.{Move, gives, delivers_line, takes_bytes, settles_all}
use Rattle.irc_script.specs.Printing.{taken_text}
use Rattle.irc_script.specs.RunLaws.{SameRun}
use Rattle.irc_script.specs.Runs.{Comes, IsSettling, MoveOutcome, Plays, nothing, move, Runs, end}
use Rattle.irc_script.specs.Runs.{request}
use Rattle.irc_script.specs.Scripts.{Request}
use Rattle.irc_script.proofs.Settling.{settles_one}

same_outcome : (a b : MoveOutcome) → a.text ≡ b.text → a.network ≡ b.network → a ≡ b
same_outcome a b text_is network_is =
    ap (λ (t : List ℕ). record { text = t; network = a.network }) text_is
    ∙ ap (λ (n : ByteNetwork). record { text = b.text; network = n }) network_is

settles_to_one : (net : ByteNetwork) (a b : MoveOutcome) → IsSettling net a
    → IsSettling net b → a ≡ b
settles_to_one net a b p q =
    let same = settles_one p.settles q.settles in
    same_outcome a b
    (p.text_is ∙ ap (λ n. taken_text n p.receipts) same.count_is
    ∙ ap (taken_text q.count) same.receipts_are ∙ sym q.text_is) same.last_is

-- what comes of a move is one
comes_one : (net : ByteNetwork) (m : Move) (a b : MoveOutcome) → Comes net m a
    → Comes net m b → a ≡ b
comes_one net (gives item) a b p q = p ∙ sym q
comes_one net (delivers_line from to) a b p q = p ∙ sym q
comes_one net (takes_bytes from to count) a b p q = p ∙ sym q
comes_one net settles_all a b p q = settles_to_one net a b p q

plays_one_way : {first last other : ByteNetwork} {moves : List Move} {text more : List ℕ}
    → Plays first moves last text → Plays first moves other more → SameRun last other text more
plays_one_way nothing nothing = record { last_is = refl; text_is = refl }
plays_one_way {first = first} {other = other} (move {m = m} {moves = moves} {more = left} a comes
    text_is rest) (move {more = t} b comes' text_is' rest') =
    let same = comes_one first m a b comes comes' in
    let later = plays_one_way rest
    (subst (λ (o : MoveOutcome). Plays o.network moves other t) (sym same) rest') in
    record {
      last_is = later.last_is;
      text_is = text_is ∙ ap (λ (o : MoveOutcome). o.text ++ left) same
          ∙ ap (λ x. b.text ++ x) later.text_is ∙ sym text_is';
    }

pub runs_one_way : (first last other : ByteNetwork) (requests : List Request) (text more : List ℕ)
    → Runs first requests last text → Runs first requests other more → SameRun last other text more
runs_one_way first last other requests text more end end = record { last_is = refl; text_is = refl }
runs_one_way a b o rs text more
    (request {middle = m} {requests = left} {more = later} text_is plays rest)
    (request {middle = n} {start = s} {more = t} text_is' plays' rest') =
    let one = plays_one_way plays plays' in
    let behind = runs_one_way m b o left later t rest
    (subst (λ k. Runs k left o t) (sym one.last_is) rest') in
    record {
      last_is = behind.last_is;
      text_is = text_is ∙ ap (λ x. x ++ later) one.text_is ∙ ap (λ x. s ++ x) behind.text_is
          ∙ sym text_is';
    }
