-- Rows in which no pipe is still.
use Rattle.std.proofs.Common.{◌≡◌, ℕ, zero, suc, Bool, true, false, ◌&&◌, cond, is_some, Option}
use Rattle.std.proofs.Common.{Some, None, Result, Ok, Err, OnOk, OnErr, List, [], ◌∷◌, ◌++◌, length}
use Rattle.std.proofs.Common.{replicate, nat_eq, refl, sym, ◌∙◌, ap, subst, unwrap_or}
use Rattle.std.proofs.Common.{if◌then◌else◌, arith}
use Rattle.std.proofs.lemmas.Bool.{eq-eqb, eqb-true}
use Rattle.std.specs.Cmp.{nat_cmp_total}
use Rattle.std.specs.FinMap.{contains_key-keys, empty, from_entries, get, get-empty, insert, keys}
use Rattle.std.specs.FinMap.{nat_cmp-IsAntisymmetric, remove, same_map}
use Rattle.std.specs.List.{list_all}
use Rattle.std.specs.Map.{keys_of}
use Rattle.std.specs.Ordering.{nat_cmp}
use Rattle.std.proofs.Math.Nat.{suc_inj}
use Rattle.irc_line.specs.Bytes.{crlf, cut}
use Rattle.irc_line.specs.Lines.{has_nothing, tail}
use Rattle.irc_stage.specs.Lemmas.Listed.{listed}
use Rattle.irc_pipes.specs.Pipes.{AreLean, IsLean, SamePipes, LinkPipe, advanced, are_still_in}
use Rattle.irc_pipes.specs.Pipes.{is_none}
use Rattle.irc_pipes.specs.Pipes.{is_still, new_pipe, put_in, pipe_in, written}
use Rattle.irc_pipes.specs.Lemmas.StillPipes.{one_of}
use Rattle.irc_pipes.specs.Lemmas.PutPipes.{get-put, get-with, get-without}
use Rattle.irc_pipes.specs.Loops.Rows.{PipeRow}

same_row : (one other : PipeRow) → ((to : ℕ) → get one to ≡ get other to) → one ≡ other
same_row = same_map nat_cmp_total nat_cmp-IsAntisymmetric

-- ---- what a pipe is

never_none : (bytes line : List ℕ) → is_none (bytes ++ (line ++ crlf)) ≡ false
never_none [] [] = refl
never_none [] (byte ∷ line) = refl
never_none (byte ∷ bytes) line = refl

pub written_moves : (line : List ℕ) (pipe : LinkPipe) → is_still (written line pipe) ≡ false
written_moves line pipe = ap (λ b. b && has_nothing pipe.begun) (never_none pipe.bytes line)

new_advanced : (count : ℕ) → advanced count new_pipe ≡ new_pipe
unfolding cut tail
new_advanced zero = refl
new_advanced (suc count) = refl

pub put_moving : (row : PipeRow) (to : ℕ) (pipe : LinkPipe) → is_still pipe ≡ false
    → put_in to pipe row ≡ insert row to pipe
put_moving row to pipe moves = ap (λ b. if b then remove row to else insert row to pipe) moves

pub put_still : (row : PipeRow) (to : ℕ) (pipe : LinkPipe) → is_still pipe ≡ true
    → put_in to pipe row ≡ remove row to
put_still row to pipe still = ap (λ b. if b then remove row to else insert row to pipe) still

-- ---- a row stays lean

lean_none : IsLean empty
lean_none to pipe is = cc (sym (get-empty nat_cmp to) ∙ is)

pub lean_put : (row : PipeRow) (to : ℕ) (pipe : LinkPipe) → IsLean row → IsLean (put_in to pipe row)
lean_put row to pipe lean q found is =
    by (nat_eq q to) (is_still pipe) refl (sym (get-put row to pipe q) ∙ is)
  where
    by : (a b : Bool) → is_still pipe ≡ b
        → cond a (if b then None else Some pipe) (get row q) ≡ Some found → is_still found ≡ false
    by true true still one = cc one
    by true false moves one = ap (λ o. is_still (unwrap_or o found)) (sym one) ∙ moves
    by false b still other = lean q found other

pub lean_without : (row : PipeRow) (to : ℕ) → IsLean row → IsLean (remove row to)
lean_without row to lean q found is = by (nat_eq q to) (sym (get-without row to q) ∙ is)
  where
    by : (a : Bool) → cond a None (get row q) ≡ Some found → is_still found ≡ false
    by true one = cc one
    by false other = lean q found other

pub lean_with : (row : PipeRow) (to : ℕ) (pipe : LinkPipe) → is_still pipe ≡ false → IsLean row
    → IsLean (insert row to pipe)
lean_with row to pipe moves lean =
    subst IsLean (put_moving row to pipe moves) (lean_put row to pipe lean)

-- a pipe along which was written, or which stays as it was
pub lean_written : {A E : Type 0} (row : PipeRow) (to : ℕ) (line : List ℕ)
    (pipe new : LinkPipe) (result : Result A E) → IsLean row → get row to ≡ Some pipe
    → OnOk result (new ≡ written line pipe) → OnErr result (new ≡ pipe) → IsLean (insert row to new)
lean_written row to line pipe new (Ok done) lean is so no_change =
    lean_with row to new (ap is_still so ∙ written_moves line pipe) lean
lean_written row to line pipe new (Err fault) lean is so same =
    lean_with row to new (ap is_still same ∙ lean to pipe is) lean

-- ---- what is put in twice, or was there

pub put_behind : (row : PipeRow) (to : ℕ) (pipe new : LinkPipe)
    → put_in to new (insert row to pipe) ≡ put_in to new row
put_behind row to pipe new = same_row _ _ (λ q.
    get-put (insert row to pipe) to new q
    ∙ ap (cond (nat_eq q to) (if is_still new then None else Some new)) (get-with row to pipe q)
    ∙ by (nat_eq q to) q ∙ sym (get-put row to new q))
  where
    by : (a : Bool) (q : ℕ)
        → cond a (if is_still new then None else Some new) (cond a (Some pipe) (get row q))
        ≡ cond a (if is_still new then None else Some new) (get row q)
    by true q = refl
    by false q = refl

pub put_twice : (old mid new : PipeRow) (to : ℕ) (pipe : LinkPipe) → mid ≡ insert old to pipe
    → new ≡ put_in to (pipe_in to mid) mid → new ≡ put_in to pipe old
put_twice old mid new to pipe first is =
    is ∙ ap (λ row. put_in to (pipe_in to row) row) first
    ∙ ap (λ w. put_in to w (insert old to pipe))
    (ap (λ o. unwrap_or o new_pipe) (get-with old to pipe to)
    ∙ ap (λ b. unwrap_or (cond b (Some pipe) (get old to)) new_pipe) (eq-eqb to to refl))
    ∙ put_behind old to pipe pipe

-- a pipe that is not still is there
pub put_again : (row : PipeRow) (to : ℕ) → is_still (pipe_in to row) ≡ false
    → put_in to (pipe_in to row) row ≡ row
put_again row to moves =
    same_row _ _ (λ q. get-put row to (pipe_in to row) q ∙ by (nat_eq q to) q refl)
  where
    there : (o : Option LinkPipe) → is_still (unwrap_or o new_pipe) ≡ false
        → (if is_still (unwrap_or o new_pipe) then None else Some (unwrap_or o new_pipe)) ≡ o
    there None still = refl
    there (Some pipe) moves = ap (λ b. if b then None else Some pipe) moves

    by : (a : Bool) (q : ℕ) → nat_eq q to ≡ a → cond a (if is_still (pipe_in to row)
        then None else Some (pipe_in to row)) (get row q) ≡ get row q
    by true q same = there (get row to) moves ∙ ap (get row) (sym (eqb-true q to same))
    by false q two = refl

pub put_nowhere : (row : PipeRow) (count to : ℕ) → get row to ≡ None
    → put_in to (advanced count (pipe_in to row)) row ≡ row
put_nowhere row count to none =
    ap (λ o. put_in to (advanced count (unwrap_or o new_pipe)) row) none
    ∙ ap (λ w. put_in to w row) (new_advanced count)
    ∙ same_row _ _ (λ q. get-without row to q ∙ by (nat_eq q to) q refl)
  where
    by : (a : Bool) (q : ℕ) → nat_eq q to ≡ a → cond a None (get row q) ≡ get row q
    by true q same = sym none ∙ ap (get row) (sym (eqb-true q to same))
    by false q two = refl

-- ---- still is who keeps none

one_moves : (row : PipeRow) → IsLean row → (to : ℕ) (pipe : LinkPipe) → get row to ≡ Some pipe
    → are_still_in row ≡ false
one_moves row lean to pipe is = by (are_still_in row) refl
  where
    by : (b : Bool) → are_still_in row ≡ b → b ≡ false
    by false moves = refl
    by true still =
        sym (one_of (λ number. is_still (pipe_in number row)) to (keys row) still
        (sym (contains_key-keys row to) ∙ ap is_some is))
        ∙ ap (λ o. is_still (unwrap_or o new_pipe)) is ∙ lean to pipe is

none_still : are_still_in (from_entries []) ≡ true
none_still =
    ap (λ (es : List (ℕ × LinkPipe)). list_all (λ to. is_still (pipe_in to (from_entries [])))
    (keys_of es)) (listed [] tt)

pub still_if_empty : (b : Bool) (es : List (ℕ × LinkPipe)) → IsLean (from_entries es)
    → (b ≡ true → length es ≡ 0) → (length es ≡ 0 → b ≡ true) → b ≡ are_still_in (from_entries es)
still_if_empty b [] lean there back = back refl ∙ sym none_still
still_if_empty true (e ∷ es) lean there back = absurd (let none = there refl in omega (arith, none))
still_if_empty false (e ∷ es) lean there back =
    sym (one_moves (from_entries (e ∷ es)) lean e.0 e.1
    (get-with (from_entries es) e.0 e.1 e.0 ∙ ap
    (λ b. cond b (Some e.1) (get {R = nat_cmp} (from_entries es) e.0)) (eq-eqb e.0 e.0 refl)))

-- ---- rows that carry the same

apart : (one other : PipeRow) (to : ℕ) (pipe : LinkPipe) → IsLean one → get one to ≡ Some pipe
    → get other to ≡ None → pipe_in to one ≡ pipe_in to other → true ≡ false
apart one other to pipe lean some none alike =
    ap is_still (sym (ap (λ o. unwrap_or o new_pipe) none) ∙ sym alike
    ∙ ap (λ o. unwrap_or o new_pipe) some) ∙ lean to pipe some

rows_same : (one other : PipeRow) → IsLean one → IsLean other
    → ((to : ℕ) → pipe_in to one ≡ pipe_in to other) → one ≡ other
rows_same one other lean lean_too alike =
    same_row one other (λ to. by to (get one to) (get other to) refl refl)
  where
    by : (to : ℕ) (o p : Option LinkPipe) → get one to ≡ o → get other to ≡ p → o ≡ p
    by to None None is was = refl
    by to (Some pipe) None is was = cc (apart one other to pipe lean is was (alike to))
    by to None (Some pipe) is was = cc (apart other one to pipe lean_too was is (sym (alike to)))
    by to (Some pipe) (Some known) is was =
        ap Some (sym (ap (λ o. unwrap_or o new_pipe) is) ∙ alike to
        ∙ ap (λ o. unwrap_or o new_pipe) was)

pub same_pipes : SamePipes
same_pipes [] [] lean lean_too long alike = refl
same_pipes [] (row ∷ other) lean lean_too long alike = absurd (omega (arith, long))
same_pipes (row ∷ one) [] lean lean_too long alike = absurd (omega (arith, long))
same_pipes (row ∷ one) (known ∷ other) lean lean_too long alike =
    ap (λ r. r ∷ one) (rows_same row known lean.0 lean_too.0 (alike 0))
    ∙ ap (λ pipes. known ∷ pipes) (same_pipes one other lean.1 lean_too.1
    (suc_inj long) (λ from. alike (suc from)))

-- ---- where nothing was written

pub none_kept : (servers : ℕ) → AreLean (replicate servers empty)
none_kept zero = tt
none_kept (suc servers) = (lean_none, none_kept servers)

pub lean_empty : (es : List (ℕ × LinkPipe)) → es ≡ [] → IsLean (from_entries es)
lean_empty es none = subst (λ l. IsLean (from_entries l)) (sym none) lean_none
