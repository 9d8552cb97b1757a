-- The pipes from one server, in the code's map.
use Rattle.std.proofs.Common.{◌≡◌, ℕ, zero, suc, min, T, true, Result, Ok, Err, OnOk, Some, None}
use Rattle.std.proofs.Common.{List, [], ◌∷◌, ◌++◌, take, length, refl, sym, ◌∙◌, ap, subst}
use Rattle.std.proofs.Common.{unwrap_or, append-nil, arith}
use Rattle.std.proofs.lemmas.Bool.{and_from}
use Rattle.std.specs.BTreeMap.{BTreeMap, UpdatesBy, get as number_in}
use Rattle.std.specs.Cmp.{nat_cmp_total}
use Rattle.std.specs.FinMap.{get, insert, is_sorted, keys, nat_cmp-IsAntisymmetric, remove}
use Rattle.std.specs.FinMap.Entries.{below_all}
use Rattle.std.specs.List.{AllByRecursion}
use Rattle.std.specs.List.Sorted.{IsStrictlySortedBy}
use Rattle.std.specs.Map.{keys_of}
use Rattle.std.specs.Ordering.{is_lt, nat_cmp}
use Rattle.std.specs.declared.cmp.Ordering.TheVariants.{Less}
use Rattle.irc_line.specs.Lines.{completed, lines, nothing_begun, tail}
use Rattle.irc_stage.specs.Lemmas.Listed.{listed}
use Rattle.irc_stage.specs.Loops.Numbered.{numbered}
use Rattle.irc_tables.specs.Lemmas.OrderedMaps.{get-mapped, put-mapped, taken-mapped}
use Rattle.irc_pipes.specs.Pipes.{LinkPipe, lines_by, new_pipe, pipe_in}

-- what the code's map has

pub found : (pipes : BTreeMap ℕ LinkPipe) (to : ℕ) (pipe : LinkPipe)
    → number_in nat_cmp pipes to ≡ Some pipe → get (numbered pipes) to ≡ Some pipe
found pipes to pipe is = get-mapped nat_cmp_total nat_cmp-IsAntisymmetric pipes to ∙ is

pub missing : (pipes : BTreeMap ℕ LinkPipe) (to : ℕ) → number_in nat_cmp pipes to ≡ None
    → get (numbered pipes) to ≡ None
missing pipes to is = get-mapped nat_cmp_total nat_cmp-IsAntisymmetric pipes to ∙ is

pub put : (old new : BTreeMap ℕ LinkPipe) (to : ℕ) (pipe : LinkPipe) → UpdatesBy nat_cmp
    (nat_cmp to) old new (Some pipe) → numbered new ≡ insert (numbered old) to pipe
put = put-mapped nat_cmp_total nat_cmp-IsAntisymmetric

pub taken_out : (old new : BTreeMap ℕ LinkPipe) (to : ℕ)
    → UpdatesBy nat_cmp (nat_cmp to) old new None → numbered new ≡ remove (numbered old) to
taken_out = taken-mapped nat_cmp_total nat_cmp-IsAntisymmetric

-- the pipe to a place

pub there : (pipes : BTreeMap ℕ LinkPipe) (to : ℕ) (pipe : LinkPipe)
    → number_in nat_cmp pipes to ≡ Some pipe → pipe_in to (numbered pipes) ≡ pipe
there pipes to pipe is = ap (λ o. unwrap_or o new_pipe) (found pipes to pipe is)

pub nowhere : (pipes : BTreeMap ℕ LinkPipe) (to : ℕ) → number_in nat_cmp pipes to ≡ None
    → pipe_in to (numbered pipes) ≡ new_pipe
nowhere pipes to is = ap (λ o. unwrap_or o new_pipe) (missing pipes to is)

-- along a new one nothing comes

take_empty : (count : ℕ) → ◌≡◌ {A = List ℕ} (take count []) []
take_empty zero = refl
take_empty (suc count) = refl

nothing_completed : completed nothing_begun [] ≡ []
unfolding lines tail
nothing_completed = refl

pub none_new : (count : ℕ) → lines_by count new_pipe ≡ []
none_new count = ap (completed nothing_begun) (take_empty count) ∙ nothing_completed

module _ (count : ℕ) (pipe : LinkPipe) (new : pipe ≡ new_pipe) where
  pub none_taken : 0 ≡ min count (length pipe.bytes)
  none_taken = least count ∙ sym (ap (λ (w : LinkPipe). min count (length w.bytes)) new)
    where
      least : (count : ℕ) → 0 ≡ min count 0
      least count = omega arith

  pub no_lines : (lines : List (List ℕ)) → lines ≡ lines ++ lines_by count pipe
  no_lines lines = sym (append-nil lines)
      ∙ ap (λ ls. lines ++ ls) (sym (none_new count) ∙ ap (lines_by count) (sym new))

-- the places of the code's map

below : (place : ℕ) (es : List (ℕ × LinkPipe))
    → AllByRecursion (λ other. nat_cmp place other ≡ Less)
    (keys_of es) → below_all nat_cmp place es ≡ true
below place [] less = refl
below place (e ∷ es) less = and_from _ _ (ap is_lt less.0) (below place es less.1)

rising : (es : List (ℕ × LinkPipe)) → IsStrictlySortedBy nat_cmp (keys_of es)
    → is_sorted nat_cmp es ≡ true
unfolding IsStrictlySortedBy
rising [] sorted = refl
rising (e ∷ es) sorted = and_from _ _ (below e.0 es sorted.0) (rising es sorted.1)

pub keys_listed : (pipes : BTreeMap ℕ LinkPipe) → IsStrictlySortedBy nat_cmp (keys_of pipes.entries)
    → keys_of pipes.entries ≡ keys (numbered pipes)
keys_listed pipes sorted =
    sym (ap keys_of (listed pipes.entries (subst T (sym (rising pipes.entries sorted)) tt)))

-- where a call went well

pub on_ok : {E : Type 0} {A B : Type 0} {R : Type 0} (r : Result R E) → OnOk r A → (A → B)
    → OnOk r B
on_ok (Ok _) a f = f a
on_ok (Err e) a f = tt
