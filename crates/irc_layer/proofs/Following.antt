-- What is at a place of a batch, and what follows it.
use Rattle.std.proofs.Common.{◌≡◌, ◌<◌, ◌+◌, ◌++◌, ℕ, Bool, true, false, nat_eq, List, [], ◌∷◌}
use Rattle.std.proofs.Common.{Option}
use Rattle.std.proofs.Common.{Some, None, drop, length, ◌∙◌, ap, arith, get_or, suc, sym, refl}
use Rattle.std.proofs.Common.{append_assoc, option_map, if◌then◌else◌}
use Rattle.std.specs.Prelude.{OnOk}
use Rattle.std.specs.declared.result.Result.{Result}
use Rattle.std.specs.declared.result.Result.TheVariants.{Ok, Err}
use Rattle.std.specs.List.{slice_get}
use Rattle.std.proofs.Math.Seq.{drop-cons}
use Rattle.std.proofs.lemmas.Option.{get_or_from_slice_get, none-some, slice_get_within}
use Rattle.std.proofs.lemmas.Option.{slice_get-get_or}
use Rattle.irc_batch.specs.Batches.{Sent, end_of, end_of_link, line_on, line_to}
use Rattle.irc_layer.specs.declared.end.Cause.{Cause}
use Rattle.irc_layer.specs.declared.end.End.{End}
use Rattle.irc_layer.specs.Ends.{end_at, Ends}
use Rattle.std.proofs.lemmas.List.{nil_from_length}
use Rattle.std.specs.BTreeMap.{btree_map_len, is_at, BTreeMap}
use Rattle.std.specs.Map.{lookup}
use Rattle.std.specs.Ordering.{nat_cmp}
use Rattle.irc_layer.specs.Putting.{all_put, behind_line, ends_behind, ends_behind_all, line_put}
use Rattle.irc_layer.specs.Putting.{next_on, one_put, piece_lines, squits_ahead, with_next}

first_of_the_rest : (outs : List Sent) (place : ℕ) (out : Sent) → slice_get outs place ≡ Some out
    → drop place outs ≡ out ∷ drop (place + 1) outs
first_of_the_rest outs place out there =
    let next : suc place ≡ place + 1 = omega arith in
    drop-cons outs place out (slice_get_within outs place out there)
    ∙ ap (λ first. first ∷ drop (suc place) outs) (get_or_from_slice_get outs place out out there)
    ∙ ap (λ n. out ∷ drop n outs) next

module _ (cause : Cause) (outs : List Sent) (place : ℕ) (sent : Sent)
    (old new : Ends) (there : slice_get outs place ≡ Some sent)
    (is : new ≡ ends_behind cause sent (drop (place + 1) outs) old) where
  -- the ends behind it, and behind what follows it
  pub ends_moved_on : ends_behind_all cause (drop (place + 1) outs) new
      ≡ ends_behind_all cause (drop place outs) old
  ends_moved_on =
      ap (ends_behind_all cause (drop (place + 1) outs)) is
      ∙ ap (λ rest. ends_behind_all cause rest old)
      (sym (first_of_the_rest outs place sent there))

  -- it is put out, and what follows it is still to be
  pub outs_moved_on : (own before : List Sent)
      → own ≡ before ++ one_put cause sent (drop (place + 1) outs) old
      → own ++ all_put cause (drop (place + 1) outs) new
      ≡ before ++ all_put cause (drop place outs) old
  outs_moved_on own before put =
      (λ i. put i ++ all_put cause (drop (place + 1) outs) (is i))
      ∙ append_assoc before (one_put cause sent (drop (place + 1) outs) old)
      (all_put cause (drop (place + 1) outs)
      (ends_behind cause sent (drop (place + 1) outs) old))
      ∙ ap (λ rest. before ++ all_put cause rest old)
      (sym (first_of_the_rest outs place sent there))

-- something is there
pub never_none : {A : Type 0} (outs : List Sent) (place : ℕ) → place < length outs
    → None ≡ slice_get outs place → A
never_none outs place within is =
    absurd (none-some (get_or outs place (end_of 0)) (is ∙ found))
  where
    found : slice_get outs place ≡ Some (get_or outs place (end_of 0))
    found = slice_get-get_or outs place (end_of 0) within

-- what is there is the next of what is left
pub next_first : (link : ℕ) (outs : List Sent) (place : ℕ) (sent : Sent)
    → slice_get outs place ≡ Some sent → squits_ahead link (drop place outs)
    ≡ with_next (next_on link sent) (squits_ahead link (drop (place + 1) outs))
next_first link outs place sent there =
    ap (squits_ahead link) (first_of_the_rest outs place sent there)

-- ---- where no link is there

module _ (cause : Cause) where
  one_nowhere : (sent : Sent) (outs : List Sent) (ends : Ends) → ((q : ℕ) → ends q ≡ None)
      → one_put cause sent outs ends ≡ sent ∷ []
  one_nowhere (line_on link line) outs ends none =
      ap (line_put cause link (piece_lines link line outs) line) (none link)
  one_nowhere (line_to conn line) outs ends none = refl
  one_nowhere (end_of conn) outs ends none = refl
  one_nowhere (end_of_link link reason) outs ends none = refl

  none_changes : (change : End → End) (end : Option End) (b : Bool) → end ≡ None
      → (if b then option_map change end else end) ≡ end
  none_changes change end true none = ap (option_map change) none ∙ sym none
  none_changes change end false none = refl

  none_goes : (end : Option End) (b : Bool) → end ≡ None → (if b then None else end) ≡ end
  none_goes end true none = sym none
  none_goes end false none = refl

  ends_nowhere : (sent : Sent) (outs : List Sent) (ends : Ends) → ((q : ℕ) → ends q ≡ None)
      → ends_behind cause sent outs ends ≡ ends
  ends_nowhere (line_on link line) outs ends none = λ i q.
      none_changes (behind_line cause link (piece_lines link line outs) line) (ends q)
      (nat_eq link q) (none q) i
  ends_nowhere (line_to conn line) outs ends none = refl
  ends_nowhere (end_of conn) outs ends none = refl
  ends_nowhere (end_of_link link reason) outs ends none = λ i q.
      none_goes (ends q) (nat_eq link q) (none q) i

  -- all goes as it is
  pub outs_as_they_are : (outs : List Sent) (ends : Ends) → ((q : ℕ) → ends q ≡ None)
      → all_put cause outs ends ≡ outs
  outs_as_they_are [] ends none = refl
  outs_as_they_are (sent ∷ outs) ends none =
      (λ i. one_nowhere sent outs ends none i
      ++ all_put cause outs (ends_nowhere sent outs ends none i))
      ∙ ap (λ more. sent ∷ more) (outs_as_they_are outs ends none)

  pub ends_as_they_are : (outs : List Sent) (ends : Ends) → ((q : ℕ) → ends q ≡ None)
      → ends_behind_all cause outs ends ≡ ends
  ends_as_they_are [] ends none = refl
  ends_as_they_are (sent ∷ outs) ends none =
      ap (ends_behind_all cause outs) (ends_nowhere sent outs ends none)
      ∙ ends_as_they_are outs ends none

  pub outs_if_ok : (outs : List Sent) (ends : Ends) → ((q : ℕ) → ends q ≡ None) → {E : Type 0}
      → (r : Result (Unit {0}) E) (own before : List Sent) → OnOk r (own ≡ before ++ outs)
      → OnOk r (own ≡ before ++ all_put cause outs ends)
  outs_if_ok outs ends none (Ok done) own before put =
      put ∙ ap (λ more. before ++ more) (sym (outs_as_they_are outs ends none))
  outs_if_ok outs ends none (Err e) own before put = tt

  pub ends_if_ok : (outs : List Sent) (ends : Ends) → ((q : ℕ) → ends q ≡ None) → {E : Type 0}
      → (r : Result (Unit {0}) E) → OnOk r (ends ≡ ends_behind_all cause outs ends)
  ends_if_ok outs ends none (Ok done) = sym (ends_as_they_are outs ends none)
  ends_if_ok outs ends none (Err e) = tt

-- where nothing is in the table of ends
pub nothing_there : (ends : BTreeMap ℕ End) → btree_map_len ends ≡ 0 → (q : ℕ)
    → end_at ends q ≡ None
nothing_there ends none q = ap (lookup (is_at (nat_cmp q))) (nil_from_length ends.entries none)
