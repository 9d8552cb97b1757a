-- What is at a place of a batch, and what follows it.
use Rattle.std.proofs.Common.{◌≡◌, ◌<◌, ◌+◌, ◌++◌, ℕ, List, [], ◌∷◌, Some, None, drop, length}
use Rattle.std.proofs.Common.{◌∙◌, ap, arith, get_or, suc, sym}
use Rattle.std.specs.Prelude.{OnOk}
use Rattle.std.specs.declared.result.Result.{Result}
use Rattle.std.specs.declared.result.Result.TheVariants.{Ok, Err}
use Rattle.std.specs.List.{slice_get}
use Rattle.std.proofs.Math.Seq.{drop-cons}
use Rattle.std.proofs.lemmas.List.{append_assoc}
use Rattle.std.proofs.lemmas.Option.{get_or_from_slice_get, none-some, slice_get_within}
use Rattle.std.proofs.lemmas.Option.{slice_get-get_or}
use Rattle.irc_batch.specs.Batches.{Sent, end_of}

first_of_the_rest : (outs : List Sent) (place : ℕ) (out : Sent) → slice_get outs place ≡ Some out
    → drop place outs ≡ out ∷ drop (place + 1) outs
first_of_the_rest outs place out there =
    let next : suc place ≡ place + 1 = omega arith in
    drop-cons outs place out (slice_get_within outs place out there)
    ∙ ap (λ first. first ∷ drop (suc place) outs) (get_or_from_slice_get outs place out out there)
    ∙ ap (λ n. out ∷ drop n outs) next

-- what is there is put out, and what follows it is still to be put out
pub moved_on : {E : Type 0} (result : Result (Unit {0}) E) (own old outs : List Sent) (place : ℕ)
    (out : Sent) → slice_get outs place ≡ Some out → OnOk result (own ≡ old ++ out ∷ [])
    → OnOk result (own ++ drop (place + 1) outs ≡ old ++ drop place outs)
moved_on (Ok done) own old outs place out there is =
    ap (λ list. list ++ drop (place + 1) outs) is
    ∙ append_assoc old (out ∷ []) (drop (place + 1) outs)
    ∙ ap (λ rest. old ++ rest) (sym (first_of_the_rest outs place out there))
moved_on (Err e) own old outs place out there is = tt

-- something is there
pub never_none : {A : Type 0} (outs : List Sent) (place : ℕ) → place < length outs
    → None ≡ slice_get outs place → A
never_none outs place within is =
    absurd (none-some (get_or outs place (end_of 0)) (is ∙ found))
  where
    found : slice_get outs place ≡ Some (get_or outs place (end_of 0))
    found = slice_get-get_or outs place (end_of 0) within
