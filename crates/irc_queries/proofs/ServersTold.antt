-- What a decision is told of a server is what is known of it, and what stands for one that is not
-- known.
use Rattle.std.proofs.Common.{◌≡◌, Option, Some, None, refl, unwrap_or}
use Rattle.std.specs.Option.{option_map, option_map_or}

pub mapped_or : {X Y : Type 0} (f : X → Y) (d : Y) (o : Option X)
    → option_map_or f o d ≡ unwrap_or (option_map f o) d
mapped_or f d None = refl
mapped_or f d (Some x) = refl
