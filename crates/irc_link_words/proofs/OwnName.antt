-- A server finds itself under its own name.
use Rattle.std.proofs.Common.{◌≡◌, ℕ, true, ◌&&◌, Some, List, [], ◌∷◌, if◌then◌else◌, nat_eq, refl}
use Rattle.std.proofs.Common.{◌∙◌, ap}
use Rattle.std.specs.Cmp.Lexicographic.{pointwise}
use Rattle.std.specs.Option.{option_map}
use Rattle.std.proofs.lemmas.Bool.{eq-eqb}
use Rattle.irc_routes.specs.Known.{Known, info_of, row_of}
use Rattle.irc_routes.specs.declared.server_row.ServerRow.{ServerRow}

pointwise_itself : (xs : List ℕ) → pointwise nat_eq xs xs ≡ true
pointwise_itself [] = refl
pointwise_itself (x ∷ xs) =
    ap (λ b. b && pointwise nat_eq xs xs) (eq-eqb x x refl) ∙ pointwise_itself xs

pub own_info_known : (known : Known) → info_of known known.name ≡ Some known.about.info
own_info_known known =
    ap (λ b. if b then Some known.about.info else option_map (λ (r : ServerRow). r.info)
    (row_of known known.name)) (pointwise_itself known.name)
