-- Bytes that come in turn until nothing is on its way come to one end.
use Rattle.std.proofs.Common.{◌≡◌, ℕ, ◌+◌, min, true, false, Bool, cond, not, Option, Some, None}
use Rattle.std.proofs.Common.{List, [], ◌∷◌, ap, sym, subst, refl, ◌∙◌}
use Rattle.std.specs.Cmp.{first_so, second_so}
use Rattle.std.specs.FinMap.{FinMap, keys}
use Rattle.std.specs.List.{find, list_all}
use Rattle.std.specs.Option.{option_map, option_map_or}
use Rattle.std.specs.Ordering.{nat_cmp}
use Rattle.std.proofs.lemmas.Option.{same_Some}
use Rattle.irc_line.specs.Lines.{has_nothing}
use Rattle.irc_net.specs.ByteNetwork.{ByteNetwork, is_byte_rest}
use Rattle.irc_net.specs.Turns.{TurnsGo, lines_in_turn, none_yet, turn_first, turn_in, turn_taken}
use Rattle.irc_net.specs.Calls.{NetView, Settles, standing}
use Rattle.irc_net.specs.Network.{Progress, Receipt, max_count}
use Rattle.irc_pipes.specs.Pipes.{Direction, LinkPipe, Pipes, are_still, are_still_in, first_from}
use Rattle.irc_pipes.specs.Pipes.{first_in, has_byte, is_none, is_still, pipe_in}
use Rattle.irc_script.specs.RunLaws.{SettlesToRest}
use Rattle.irc_script.specs.Runs.{end, move, nothing, request}

-- ---- at rest no turn is taken

still_has_none : (pipe : LinkPipe) → is_still pipe ≡ true → has_byte pipe ≡ false
still_has_none pipe still = ap not (first_so (is_none pipe.bytes) (has_nothing pipe.begun) still)

none_found : (p q : ℕ → Bool) → ((n : ℕ) → p n ≡ true → q n ≡ false) → (numbers : List ℕ)
    → list_all p numbers ≡ true → find q numbers ≡ None
none_found p q not_so [] all = refl
none_found p q not_so (n ∷ numbers) all =
    ap (λ b. cond b (Some n) (find q numbers)) (not_so n (first_so (p n) (list_all p numbers) all))
    ∙ none_found p q not_so numbers (second_so (p n) (list_all p numbers) all)

none_in : (row : FinMap nat_cmp LinkPipe) → are_still_in row ≡ true → first_in row ≡ None
none_in row still =
    none_found (λ to. is_still (pipe_in to row)) (λ to. has_byte (pipe_in to row))
    (λ to. still_has_none (pipe_in to row)) (keys row) still

none_from : (place : ℕ) (pipes : Pipes) → are_still pipes ≡ true → first_from place pipes ≡ None
none_from place [] still = refl
none_from place (row ∷ pipes) still =
    ap (λ (o : Option ℕ). option_map_or (λ to. Some (way place to)) o
    (first_from (place + 1) pipes))
    (none_in row (first_so (are_still_in row) (are_still pipes) still))
    ∙ none_from (place + 1) pipes (second_so (are_still_in row) (are_still pipes) still)
  where
    way : ℕ → ℕ → Direction
    way from to = record { from = from; to = to }

no_turn : (progress : Progress ByteNetwork) → is_byte_rest progress.state ≡ true
    → turn_taken progress ≡ None
no_turn progress rest = ap (option_map (turn_in progress)) (none_from 0 progress.state.pipes rest)

never_on : (progress : Progress ByteNetwork) {between : Progress ByteNetwork}
    → is_byte_rest progress.state ≡ true → turn_taken progress ≡ Some between → ⊥
never_on progress rest turn = cc (sym (no_turn progress rest) ∙ turn)

-- ---- one end

record SameTurns (count other : ℕ) (last next : Progress ByteNetwork) : Type 0 where
  count_is : count ≡ other
  last_is : last ≡ next

turns_one : {count other : ℕ} {progress last next : Progress ByteNetwork}
    → TurnsGo count progress last → is_byte_rest last.state ≡ true → TurnsGo other progress next
    → is_byte_rest next.state ≡ true → SameTurns count other last next
turns_one none_yet rest none_yet rest' = record { count_is = refl; last_is = refl }
turns_one {progress = progress} none_yet rest (turn_first turn all goes) rest' =
    absurd (never_on progress rest turn)
turns_one {progress = progress} (turn_first turn all goes) rest none_yet rest' =
    absurd (never_on progress rest' turn)
turns_one {progress = progress} {next = next}
    (turn_first {count = n} {between = a} turn all goes) rest
    (turn_first {count = m} {between = b} turn' all' goes') rest' =
    let one : a ≡ b = same_Some a b (sym turn ∙ turn') in
    let same = turns_one goes rest (subst (λ c. TurnsGo m c next) (sym one) goes') rest' in
    record {
      count_is = all ∙ ap (λ k. lines_in_turn progress.state + k) same.count_is ∙ sym all';
      last_is = same.last_is;
    }

-- two settlings come to the same
pub record AreSame {net : ByteNetwork} {count other : ℕ} {receipts more : List Receipt}
    {last next : ByteNetwork}
    (one : Settles net count receipts (standing last))
    (another : Settles net other more (standing next)) : Type 0 where
  pub count_is : count ≡ other
  pub receipts_are : receipts ≡ more
  pub last_is : last ≡ next

pub settles_one : {net : ByteNetwork} {count other : ℕ} {receipts more : List Receipt}
    {last next : ByteNetwork}
    (one : Settles net count receipts (standing last))
    (another : Settles net other more (standing next)) → AreSame one another
settles_one one another =
    let same = turns_one one.goes one.rest another.goes another.rest in
    record {
      count_is = one.counts ∙ ap (λ n. min n max_count) same.count_is ∙ sym another.counts;
      receipts_are =
          one.received ∙ ap (λ (c : Progress ByteNetwork). c.out) same.last_is
          ∙ sym another.received;
      last_is =
          ap (λ (v : NetView). v.network) one.after
          ∙ ap (λ (c : Progress ByteNetwork). c.state) same.last_is
          ∙ sym (ap (λ (v : NetView). v.network) another.after);
    }

-- where the last request settles, nothing is on its way
pub settles_to_rest : SettlesToRest
settles_to_rest first last [] text (request text_is (move outcome comes start_is nothing) end) =
    ap (λ (v : NetView). is_byte_rest v.network) comes.settles.after ∙ comes.settles.rest
settles_to_rest first last (r ∷ requests) text
    (request {middle = middle} {more = more} text_is plays rest) =
    settles_to_rest middle last requests more rest
