-- What is told of links, one after another, and what is left to tell.
use Rattle.std.proofs.Common.{◌≡◌, ℕ, Option, List, ◌∷◌, length, refl, sym, subst}
use Rattle.std.proofs.lemmas.List.{nil_from_length}
use Rattle.irc_journal.specs.declared.journal.Journal.{Journal}
use Rattle.irc_journal.specs.declared.tidings.Tidings.{Tidings}
use Rattle.irc_journal.specs.Saying.{AreTold, TellsOne}

-- whatever comes of it once the rest is told, comes of it once all are
abbrev pub Leads : ℕ → List Tidings → Journal → Option (List ℕ) → List Tidings → Journal
    → Option (List ℕ) → Type 0
Leads moment rest journal held all first start = (new : Journal) (after : Option (List ℕ))
    → AreTold moment rest journal new held after → AreTold moment all first new start after

pub leads_all : (moment : ℕ) (all : List Tidings) (first : Journal) (start : Option (List ℕ))
    → Leads moment all first start all first start
leads_all moment all first start new after told = told

pub leads_on : (moment : ℕ) (rest more all : List Tidings) (told : Tidings)
    (journal between first : Journal) (held then start : Option (List ℕ)) → rest ≡ told ∷ more
    → TellsOne moment told journal between held then
    → Leads moment rest journal held all first start
    → Leads moment more between then all first start
leads_on moment rest more all told journal between first held then start is tells leads new after
    others =
    leads new after (subst (λ (these : List Tidings). AreTold moment these journal new held after)
    (sym is) (record { between = between; then = then; tells_one = tells; rest_is = others }))

pub leads_nobody : (moment : ℕ) (rest all : List Tidings) (journal first : Journal)
    (held start : Option (List ℕ)) → length rest ≡ 0
    → Leads moment rest journal held all first start
    → AreTold moment all first journal start held
leads_nobody moment rest all journal first held start is leads =
    leads journal held (subst (λ (these : List Tidings). AreTold moment these journal journal held
    held) (sym (nil_from_length rest is)) (refl, refl))
