-- The pipes from the server at a place.
use Rattle.std.proofs.Common.{◌≡◌, ◌<◌, ℕ, zero, suc, Some, None, List, [], ◌∷◌, sym}
use Rattle.std.proofs.Common.{◌∙◌, ap, arith, length, get_or}
use Rattle.std.specs.List.{slice_get, slice_set}
use Rattle.std.specs.Option.{option_map_or}
use Rattle.irc_pipes.specs.Pipes.{LinkPipe, Pipes, new_pipe, put_in, pipe_at, pipe_in, with_pipe}
use Rattle.irc_pipes.specs.Loops.Rows.{PipeRow}

pub found_at : {X : Type 0} (xs : List X) (i : ℕ) (x : X) → i < length xs → x ≡ get_or xs i x
    → slice_get xs i ≡ Some x
found_at [] i x within is = absurd (omega (arith, within))
found_at (y ∷ xs) zero x within is = ap Some (sym is)
found_at (y ∷ xs) (suc i) x within is = found_at xs i x (omega (arith, within)) is

pub pipe_there : (pipes : Pipes) (from to : ℕ) (row : PipeRow) → slice_get pipes from ≡ Some row
    → pipe_at pipes from to ≡ pipe_in to row
pipe_there pipes from to row is = ap (λ o. option_map_or (pipe_in to) o new_pipe) is

pub pipe_nowhere : (pipes : Pipes) (from to : ℕ) → slice_get pipes from ≡ None
    → pipe_at pipes from to ≡ new_pipe
pipe_nowhere pipes from to is = ap (λ o. option_map_or (pipe_in to) o new_pipe) is

-- the same of numbers that are the places
pub pipe_by : (pipes : Pipes) (from to near far : ℕ) (row : PipeRow) → near ≡ from → far ≡ to
    → slice_get pipes near ≡ Some row → pipe_in far row ≡ pipe_at pipes from to
pipe_by pipes from to near far row from_is to_is is =
    sym (pipe_there pipes near far row is) ∙ (λ i. pipe_at pipes (from_is i) (to_is i))

-- a pipe is changed in the row at the place
pub changed_in : (pipes : Pipes) (from to : ℕ) (change : LinkPipe → LinkPipe) (row new : PipeRow)
    → slice_get pipes from ≡ Some row → new ≡ put_in to (change (pipe_in to row)) row
    → slice_set pipes from new ≡ with_pipe from to (change (pipe_at pipes from to)) pipes
changed_in pipes from to change row new is so =
    ap (slice_set pipes from) so
    ∙ ap (λ o. option_map_or (λ (r : PipeRow). slice_set pipes from
    (put_in to (change (option_map_or (pipe_in to) o new_pipe)) r)) o pipes) (sym is)
