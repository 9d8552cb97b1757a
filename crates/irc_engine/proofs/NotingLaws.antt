-- What is entered in a journal, in several stretches.
use Rattle.std.proofs.Common.{◌≡◌, ℕ, List, [], ◌∷◌, ◌++◌, sym, ◌∙◌, ap, append-nil, refl, subst}
use Rattle.std.proofs.lemmas.List.Concat.{flat_map-append}
use Rattle.irc_batch.specs.Batches.{Sent}
use Rattle.irc_journal.specs.declared.journal.Journal.{Journal}
use Rattle.irc_journal.specs.Signs.{Enters, EntersAll, Sign, sign_of}
use Rattle.irc_engine.specs.Noting.{out_signs}

pub enters_one : (link : ℕ) (sign : Sign) (old new : Journal) → Enters link sign old new
    → EntersAll ((link, sign) ∷ []) old new
enters_one link sign old new enters = record { between = new; enters = enters; rest_is = refl }

-- two of one link
pub enters_two : (link : ℕ) (one other : Sign) (old mid new : Journal) → Enters link one old mid
    → Enters link other mid new → EntersAll ((link, one) ∷ (link, other) ∷ []) old new
enters_two link one other old mid new enters then =
    record { between = mid; enters = enters; rest_is = enters_one link other mid new then }

pub enters_both : (a b : List (ℕ × Sign)) (old mid new : Journal) → EntersAll a old mid
    → EntersAll b mid new → EntersAll (a ++ b) old new
enters_both [] b old mid new one other = subst (λ (j : Journal). EntersAll b j new) one other
enters_both (first ∷ a) b old mid new one other =
    record {
      between = one.between;
      enters = one.enters;
      rest_is = enters_both a b one.between mid new one.rest_is other;
    }

signs_more : (outs : List Sent) (out : Sent)
    → out_signs (outs ++ out ∷ []) ≡ out_signs outs ++ sign_of out
signs_more outs out = flat_map-append sign_of outs (out ∷ [])
    ∙ ap (λ signs. out_signs outs ++ signs) (append-nil (sign_of out))

-- one thing more that is put out
pub enters_next : (outs : List Sent) (out : Sent) (old mid new : Journal)
    → EntersAll (out_signs outs) old mid → EntersAll (sign_of out) mid new
    → EntersAll (out_signs (outs ++ out ∷ [])) old new
enters_next outs out old mid new one other =
    subst (λ (signs : List (ℕ × Sign)). EntersAll signs old new) (sym (signs_more outs out))
    (enters_both (out_signs outs) (sign_of out) old mid new one other)
