-- What is at a place of a batch is said, and what follows it is still to be.
use Rattle.std.proofs.Common.{◌≡◌, ◌<◌, ◌+◌, ◌++◌, ℕ, List, ◌∷◌, Option, Some, None, drop, length}
use Rattle.std.proofs.Common.{◌∙◌, ap}
use Rattle.std.proofs.Common.{append_assoc, arith, get_or, suc, sym, Result, Ok, Err, OnOk}
use Rattle.std.specs.List.{slice_get}
use Rattle.std.proofs.Math.Seq.{drop-cons}
use Rattle.std.proofs.lemmas.Option.{get_or_from_slice_get, none-some, slice_get_within}
use Rattle.std.proofs.lemmas.Option.{slice_get-get_or}
use Rattle.irc_batch.specs.Batches.{Sent, end_of}
use Rattle.irc_door.specs.declared.manner.Manner.{Manner}
use Rattle.irc_door.specs.Capabilities.{Asked}
use Rattle.irc_door.specs.Doors.{said, said_by}

module _ (manner : Manner) (asked : Option Asked) (outs : List Sent) (place : ℕ) where
  -- what is there, and what follows it
  left : (sent : Sent) → slice_get outs place ≡ Some sent
      → drop place outs ≡ sent ∷ drop (place + 1) outs
  left sent there =
      let next : suc place ≡ place + 1 = omega arith in
      drop-cons outs place sent (slice_get_within outs place sent there)
      ∙ ap (λ first. first ∷ drop (suc place) outs)
      (get_or_from_slice_get outs place sent sent there)
      ∙ ap (λ n. sent ∷ drop n outs) next

  pub said_on : {E : Type 0} (r : Result (Unit {0}) E) (sent : Sent) (own before : List Sent)
      → slice_get outs place ≡ Some sent → OnOk r (own ≡ before ++ said manner asked sent)
      → OnOk r (own ++ said_by manner asked (drop (place + 1) outs)
      ≡ before ++ said_by manner asked (drop place outs))
  said_on (Ok _) sent own before there put =
      ap (λ o. o ++ said_by manner asked (drop (place + 1) outs)) put
      ∙ append_assoc before (said manner asked sent) (said_by manner asked (drop (place + 1) outs))
      ∙ ap (λ rest. before ++ said_by manner asked rest) (sym (left sent there))
  said_on (Err e) sent own before there put = tt

  -- something is there
  pub never_none : {A : Type 0} → place < length outs → None ≡ slice_get outs place → A
  never_none within is = absurd (none-some (get_or outs place (end_of 0))
      (is ∙ slice_get-get_or outs place (end_of 0) within))
