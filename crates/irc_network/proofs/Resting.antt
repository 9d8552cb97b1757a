-- A network at rest, and one in which no byte is on its way.
use Rattle.std.proofs.Common.{◌≡◌, ℕ, ◌+◌, suc, Bool, true, false, not, ◌&&◌, ◌||◌, cond, Option}
use Rattle.std.proofs.Common.{Some, None, List, [], ◌∷◌, refl, sym, ◌∙◌, ap}
use Rattle.std.proofs.lemmas.Bool.{and_from}
use Rattle.std.specs.FinMap.{FinMap, keys}
use Rattle.std.specs.List.{find, list_all, list_any, slice_get}
use Rattle.std.specs.Option.{option_map_or}
use Rattle.std.specs.Ordering.{nat_cmp}
use Rattle.std.specs.Cmp.{first_so, second_so}
use Rattle.irc_line.specs.Lines.{begun_behind, has_nothing}
use Rattle.irc_network.specs.Network.{Node, is_at_rest, is_nothing, is_quiet, waiting, waits}
use Rattle.irc_pipes.specs.Pipes.{Direction, LinkPipe, Pipes, are_still, are_still_in, first_from}
use Rattle.irc_pipes.specs.Pipes.{first_in, has_byte, is_none, is_still, lines_to_come, pipe_at}
use Rattle.irc_pipes.specs.Pipes.{pipe_in}
use Rattle.irc_network.specs.ByteNetwork.{lines_ahead}
use Rattle.irc_network.specs.Whole.{IsWhole, NoByteRests, RestAsLines}
use Rattle.irc_network.proofs.Refilled.{alone}
use Rattle.irc_network.proofs.StillPipes.{all_new}
use Rattle.irc_network.proofs.PipeLines.{IsKnownOfStreams, new_has_none}
use Rattle.irc_network.specs.Lemmas.NewFramer.{new_is_real}

abbrev way : ℕ → ℕ → Direction
way place to = record { from = place; to = to }

abbrev PipeRow : Type 0
PipeRow = FinMap nat_cmp LinkPipe

-- ---- no line waits

none_of : (p : ℕ → Bool) (numbers : List ℕ) → ((n : ℕ) → p n ≡ false) → list_any p numbers ≡ false
none_of p [] none = refl
none_of p (n ∷ numbers) none = ap (λ b. b || list_any p numbers) (none n) ∙ none_of p numbers none

quiet : (node : Node) → ((to : ℕ) → waiting node to ≡ []) → is_quiet node ≡ true
quiet node none = ap not (none_of (waits node) (keys node.queues)
    (λ to. ap (λ lines. not (is_nothing lines)) (none to)))

all_quiet : (nodes : List Node)
    → ((place to : ℕ) → option_map_or (λ node. waiting node to) (slice_get nodes place) [] ≡ [])
    → list_all is_quiet nodes ≡ true
all_quiet [] none = refl
all_quiet (node ∷ nodes) none = and_from (is_quiet node) (list_all is_quiet nodes)
    (quiet node (none 0)) (all_quiet nodes (λ place. none (suc place)))

-- ---- no byte is on its way

none_found : (p : ℕ → Bool) (numbers : List ℕ) → list_all (λ n. not (p n)) numbers ≡ true
    → find p numbers ≡ None
none_found p [] none = refl
none_found p (n ∷ numbers) none = by (p n) (none_found p numbers) none
  where
    by : (b : Bool) → (list_all (λ m. not (p m)) numbers ≡ true → find p numbers ≡ None)
        → (not b && list_all (λ m. not (p m)) numbers) ≡ true
        → cond b (Some n) (find p numbers) ≡ None
    by true later none = cc none
    by false later none = later none

moves_not : (pipe : LinkPipe) → is_still pipe ≡ true → not (has_byte pipe) ≡ true
moves_not pipe still =
    ap (λ b. not (not b)) (first_so (is_none pipe.bytes) (has_nothing pipe.begun) still)

none_moves : (row : PipeRow) (numbers : List ℕ) → list_all (λ to. is_still (pipe_in to row)) numbers
    ≡ true → list_all (λ to. not (has_byte (pipe_in to row))) numbers ≡ true
none_moves row [] still = refl
none_moves row (to ∷ numbers) still =
    and_from (not (has_byte (pipe_in to row)))
    (list_all (λ q. not (has_byte (pipe_in q row))) numbers)
    (moves_not (pipe_in to row) (first_so (is_still (pipe_in to row))
    (list_all (λ q. is_still (pipe_in q row)) numbers) still))
    (none_moves row numbers (second_so (is_still (pipe_in to row))
    (list_all (λ q. is_still (pipe_in q row)) numbers) still))

pub no_direction : (place : ℕ) (pipes : Pipes) → are_still pipes ≡ true
    → first_from place pipes ≡ None
no_direction place [] still = refl
no_direction place (row ∷ pipes) still =
    ap (λ o. option_map_or (λ to. Some (way place to)) o (first_from (place + 1) pipes))
    (none_found (λ to. has_byte (pipe_in to row)) (keys row)
    (none_moves row (keys row) (first_so (are_still_in row) (are_still pipes) still)))
    ∙ no_direction (place + 1) pipes (second_so (are_still_in row) (are_still pipes) still)

pub rest_as_lines : IsKnownOfStreams → RestAsLines
rest_as_lines known net whole rest =
    let same = alone (lines_ahead net.pipes) net.network (λ from to.
    ap lines_to_come (all_new net.pipes rest from to) ∙ new_has_none known new_is_real) in
    record {
      as_lines = same;
      at_rest = ap is_at_rest same ∙ all_quiet net.network.nodes whole.tidy.quiet;
      no_byte = no_direction 0 net.pipes rest;
    }

not_found : (p : ℕ → Bool) (numbers : List ℕ) → find p numbers ≡ None
    → list_all (λ n. not (p n)) numbers ≡ true
not_found p [] none = refl
not_found p (n ∷ numbers) none = by (p n) (not_found p numbers) none
  where
    by : (b : Bool) → (find p numbers ≡ None → list_all (λ m. not (p m)) numbers ≡ true) → cond b
        (Some n) (find p numbers) ≡ None → (not b && list_all (λ m. not (p m)) numbers) ≡ true
    by true later found = cc found
    by false later left = later left

nothing_left : (known : IsKnownOfStreams) (pipe : LinkPipe) → IsWhole pipe
    → not (has_byte pipe) ≡ true → is_still pipe ≡ true
nothing_left known pipe whole none = by pipe.bytes refl
  where
    by : (bytes : List ℕ) → pipe.bytes ≡ bytes → is_still pipe ≡ true
    by (byte ∷ bytes) is = cc (sym none ∙ ap (λ bs. not (not (is_none bs))) is)
    by [] is =
        and_from (is_none pipe.bytes) (has_nothing pipe.begun) (ap is_none is)
        (ap has_nothing (sym ((known.pieces pipe.begun whole.real).none_begun)
        ∙ ap (begun_behind pipe.begun) (sym is) ∙ whole.ends))

all_still : IsKnownOfStreams → (row : PipeRow) (numbers : List ℕ)
    → ((to : ℕ) → IsWhole (pipe_in to row)) → list_all
    (λ to. not (has_byte (pipe_in to row))) numbers ≡ true
    → list_all (λ to. is_still (pipe_in to row)) numbers ≡ true
all_still known row [] whole none = refl
all_still known row (to ∷ numbers) whole none =
    and_from (is_still (pipe_in to row)) (list_all (λ q. is_still (pipe_in q row)) numbers)
    (nothing_left known (pipe_in to row) (whole to) (first_so (not (has_byte (pipe_in to row)))
    (list_all (λ q. not (has_byte (pipe_in q row))) numbers) none))
    (all_still known row numbers whole (second_so (not (has_byte (pipe_in to row)))
    (list_all (λ q. not (has_byte (pipe_in q row))) numbers) none))

none_from : IsKnownOfStreams → (place : ℕ) (pipes : Pipes)
    → ((x to : ℕ) → IsWhole (pipe_at pipes x to)) → first_from place pipes ≡ None → are_still pipes
    ≡ true
none_from known place [] whole none = refl
none_from known place (row ∷ pipes) whole none =
    by (first_in row) refl (none_from known (place + 1) pipes (λ x. whole (suc x))) none
  where
    by : (o : Option ℕ) → first_in row ≡ o
        → (first_from (place + 1) pipes ≡ None → are_still pipes ≡ true)
        → option_map_or (λ to. Some (way place to)) o (first_from (place + 1) pipes) ≡ None
        → are_still (row ∷ pipes) ≡ true
    by (Some to) found later left = cc left
    by None none_here later left =
        and_from (are_still_in row) (are_still pipes)
        (all_still known row (keys row) (whole 0)
        (not_found (λ to. has_byte (pipe_in to row)) (keys row) none_here)) (later left)

pub no_byte_rests : IsKnownOfStreams → NoByteRests
no_byte_rests known net whole none = none_from known 0 net.pipes whole.whole none
