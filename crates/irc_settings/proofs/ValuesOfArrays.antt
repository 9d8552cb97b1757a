-- The values of an array of the code are those of the items that it stands for.
use Rattle.std.proofs.Common.{◌≡◌, List, [], ◌∷◌, map, refl, ap}
use Rattle.toml.specs.View.{view, items_view}
use Rattle.toml.specs.declared.value.Value.{Value}
use Rattle.irc_settings.specs.Keys.{values_in}

pub same_values : (vs : List Value) → values_in (items_view vs) ≡ map view vs
same_values [] = refl
same_values (v ∷ vs) = ap (λ rest. view v ∷ rest) (same_values vs)
