use Rattle.std.proofs.Common.{◌≡◌, fold, drop}
use Rattle.std.specs.Hash as fed
use Rattle.std.specs.List.{flat_map}
use Rattle.irc_names.specs.Fold.{key}
use Rattle.irc_names.specs.FoldLaws.{folds_fed}
use Rattle.irc_names.proofs.hashing.hash_folds.Given as goal

-- what is left to feed makes the whole
abbrev pub invariant-loop-byte : goal.invariant-loop-byte
invariant-loop-byte g l =
    fold g.H.Hasher.write l.state (flat_map fed.u8 (key (drop l.byte-index l.name)))
    ≡ fold g.H.Hasher.write l.fn.state (folds_fed l.fn.name)
