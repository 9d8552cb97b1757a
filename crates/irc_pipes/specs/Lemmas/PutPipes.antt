-- A pipe that is put where one goes.
use Rattle.std.proofs.Common.{◌≡◌, ℕ, zero, suc, Bool, true, false, cond, Option, Some, None, []}
use Rattle.std.proofs.Common.{◌∷◌, nat_eq, refl, sym, ◌∙◌, ap, unwrap_or, if◌then◌else◌}
use Rattle.std.proofs.lemmas.Bool.{eq-eqb, eqb-true}
use Rattle.std.specs.Cmp.{nat_cmp_total, unsigned_tied}
use Rattle.std.specs.FinMap.{FinMap, get, get-insert, get-remove, insert, remove}
use Rattle.std.specs.List.{slice_get, slice_set}
use Rattle.std.specs.Option.{option_map_or}
use Rattle.std.specs.Ordering.{nat_cmp}
use Rattle.irc_pipes.specs.Pipes.{LinkPipe, Pipes, is_still, new_pipe, put_in, pipe_at, pipe_in}
use Rattle.irc_pipes.specs.Pipes.{with_pipe}
use Rattle.irc_pipes.specs.Lemmas.StillPipes.{still_is_new}

abbrev PipeRow : Type 0
PipeRow = FinMap nat_cmp LinkPipe

-- ---- in a row

pub get-with : (row : PipeRow) (to : ℕ) (pipe : LinkPipe) (y : ℕ)
    → get (insert row to pipe) y ≡ cond (nat_eq y to) (Some pipe) (get row y)
get-with row to pipe y = get-insert nat_cmp_total row to pipe y
    ∙ ap (λ b. cond b (Some pipe) (get row y)) (unsigned_tied y to)

pub get-without : (row : PipeRow) (to y : ℕ)
    → get (remove row to) y ≡ cond (nat_eq y to) None (get row y)
get-without row to y =
    get-remove nat_cmp_total row to y ∙ ap (λ b. cond b None (get row y)) (unsigned_tied y to)

pub get-put : (row : PipeRow) (to : ℕ) (pipe : LinkPipe) (y : ℕ) → get (put_in to pipe row) y
    ≡ cond (nat_eq y to) (if is_still pipe then None else Some pipe) (get row y)
get-put row to pipe y = by (is_still pipe)
  where
    by : (b : Bool) → get (if b then remove row to else insert row to pipe) y
        ≡ cond (nat_eq y to) (if b then None else Some pipe) (get row y)
    by true = get-without row to y
    by false = get-with row to pipe y

pub pipe_put : (row : PipeRow) (to : ℕ) (pipe : LinkPipe) (y : ℕ)
    → pipe_in y (put_in to pipe row) ≡ cond (nat_eq y to) pipe (pipe_in y row)
pipe_put row to pipe y =
    ap (λ o. unwrap_or o new_pipe) (get-put row to pipe y) ∙ by (nat_eq y to) (is_still pipe) refl
  where
    by : (a b : Bool) → is_still pipe ≡ b → unwrap_or
        (cond a (if b then None else Some pipe) (get row y)) new_pipe ≡ cond a pipe (pipe_in y row)
    by true true still = sym (still_is_new pipe still)
    by true false moves = refl
    by false b is = refl

-- ---- among all

-- where it is
pub data IsSetAt (from to : ℕ) (pipe : LinkPipe) (pipes : Pipes) (x y : ℕ) : Type 0 where
  it : x ≡ from → y ≡ to → pipe_at (with_pipe from to pipe pipes) x y ≡ pipe
      → IsSetAt from to pipe pipes x y
  nowhere : x ≡ from → y ≡ to → pipe_at (with_pipe from to pipe pipes) x y ≡ new_pipe
      → pipe_at pipes x y ≡ new_pipe → IsSetAt from to pipe pipes x y
  other_from : nat_eq x from ≡ false → pipe_at (with_pipe from to pipe pipes) x y
      ≡ pipe_at pipes x y → IsSetAt from to pipe pipes x y
  other_to : nat_eq y to ≡ false → pipe_at (with_pipe from to pipe pipes) x y ≡ pipe_at pipes x y
      → IsSetAt from to pipe pipes x y

pub get_set : (pipes : Pipes) (from : ℕ) (row new : PipeRow) → slice_get pipes from ≡ Some row
    → slice_get (slice_set pipes from new) from ≡ Some new
get_set [] from row new is = cc is
get_set (first ∷ pipes) zero row new is = refl
get_set (first ∷ pipes) (suc from) row new is = get_set pipes from row new is

pub one_before : (x y : ℕ) → nat_eq (suc x) (suc y) ≡ false → nat_eq x y ≡ false
one_before x y two = by (nat_eq x y) refl
  where
    by : (b : Bool) → nat_eq x y ≡ b → b ≡ false
    by false is = refl
    by true is = cc (sym (eq-eqb (suc x) (suc y) (ap suc (eqb-true x y is))) ∙ two)

pub get_other : (pipes : Pipes) (from x : ℕ) (new : PipeRow) → nat_eq x from ≡ false
    → slice_get (slice_set pipes from new) x ≡ slice_get pipes x
get_other [] from x new two = refl
get_other (first ∷ pipes) zero zero new two = cc two
get_other (first ∷ pipes) zero (suc x) new two = refl
get_other (first ∷ pipes) (suc from) zero new two = refl
get_other (first ∷ pipes) (suc from) (suc x) new two =
    get_other pipes from x new (one_before x from two)

pub pipe_set : (from to : ℕ) (pipe : LinkPipe) (pipes : Pipes) (x y : ℕ)
    → IsSetAt from to pipe pipes x y
pipe_set from to pipe pipes x y = by_from (nat_eq x from) refl (slice_get pipes from) refl
  where
    put : (row : PipeRow) → slice_get pipes from ≡ Some row → x ≡ from → (b : Bool)
        → nat_eq y to ≡ b → pipe_at (with_pipe from to pipe pipes) x y ≡ cond b pipe (pipe_in y row)
    put row is one b same =
        ap (λ o. pipe_at (option_map_or (λ r. slice_set pipes from (put_in to pipe r)) o pipes) x y)
        is
        ∙ ap (λ n. pipe_at (slice_set pipes from (put_in to pipe row)) n y) one
        ∙ ap (λ o. option_map_or (pipe_in y) o new_pipe)
        (get_set pipes from row (put_in to pipe row) is)
        ∙ pipe_put row to pipe y ∙ ap (λ c. cond c pipe (pipe_in y row)) same

    by_to : (row : PipeRow) → slice_get pipes from ≡ Some row → x ≡ from → (b : Bool)
        → nat_eq y to ≡ b → IsSetAt from to pipe pipes x y
    by_to row is one true same = it one (eqb-true y to same) (put row is one true same)
    by_to row is one false two =
        other_to two (put row is one false two ∙ sym (ap (λ n. pipe_at pipes n y) one
        ∙ ap (λ o. option_map_or (pipe_in y) o new_pipe) is))

    none_set : slice_get pipes from ≡ None → x ≡ from → (b : Bool) → nat_eq y to ≡ b
        → IsSetAt from to pipe pipes x y
    none_set is one true same =
        nowhere one (eqb-true y to same)
        (ap (λ p. pipe_at
        (option_map_or (λ r. slice_set pipes from (put_in to pipe r)) p pipes) x y) is
        ∙ ap (λ n. pipe_at pipes n y) one ∙ ap (λ p. option_map_or (pipe_in y) p new_pipe) is)
        (ap (λ n. pipe_at pipes n y) one ∙ ap (λ p. option_map_or (pipe_in y) p new_pipe) is)
    none_set is one false two =
        other_to two (ap (λ p. pipe_at
        (option_map_or (λ r. slice_set pipes from (put_in to pipe r)) p pipes) x y) is)

    away : (o : Option PipeRow) → nat_eq x from ≡ false → pipe_at (option_map_or
        (λ r. slice_set pipes from (put_in to pipe r)) o pipes) x y ≡ pipe_at pipes x y
    away None two = refl
    away (Some row) two = ap (λ o. option_map_or (pipe_in y) o new_pipe)
        (get_other pipes from x (put_in to pipe row) two)

    by_from : (b : Bool) → nat_eq x from ≡ b → (o : Option PipeRow) → slice_get pipes from ≡ o
        → IsSetAt from to pipe pipes x y
    by_from false two o is = other_from two (away (slice_get pipes from) two)
    by_from true one None is = none_set is (eqb-true x from one) (nat_eq y to) refl
    by_from true one (Some row) is = by_to row is (eqb-true x from one) (nat_eq y to) refl
