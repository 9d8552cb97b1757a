-- Ranges that are read one by one.
use Rattle.std.proofs.Common.{◌≡◌, ◌∙◌, sym, ap, subst, Some, None, List, [], ◌∷◌, ◌++◌}
use Rattle.std.proofs.Common.{append_assoc, append-nil, length, map, string_bytes, String}
use Rattle.std.proofs.lemmas.List.{nil_from_length}
use Rattle.std.specs.declared.alloc.Global.{Global}
use Rattle.irc_entrance.specs.Ranges.{AreRanges, IsSomeNoRange, ReadsRange, later, nothing}
use Rattle.irc_entrance.specs.Ranges.{one_more}
use Rattle.irc_entrance.specs.Ranges.{this}
use Rattle.irc_entrance.specs.declared.address_range.AddressRange.{AddressRange}

-- what the ranges of those that are left are, behind the ranges so far, those of all are; and one
-- of all is none where one of these is
pub record Left (rest all : List (String Global)) (so_far : List AddressRange) : Type 0 where
  pub ranges : (more : List AddressRange) → AreRanges (map string_bytes rest) more
      → AreRanges (map string_bytes all) (so_far ++ more)
  pub none : IsSomeNoRange (map string_bytes rest) → IsSomeNoRange (map string_bytes all)

pub left_behind : (rest all more : List (String Global)) (first : String Global)
    (range : AddressRange) (before now : List AddressRange) → rest ≡ first ∷ more
    → ReadsRange (string_bytes first) (Some range) → now ≡ before ++ range ∷ []
    → Left rest all before → Left more all now
left_behind rest all more first range before now is found added left =
    let behind : Left (first ∷ more) all before = subst (λ these. Left these all before) is left in
    record {
      ranges = λ others some.
          subst (AreRanges (map string_bytes all)) (sym (append_assoc before (range ∷ []) others)
          ∙ ap (λ these. these ++ others) (sym added))
          (behind.ranges (range ∷ others) (one_more found some));
      none = λ some. behind.none (later some);
    }

pub left_here : (rest all more : List (String Global)) (first : String Global)
    (before : List AddressRange) → rest ≡ first ∷ more → ReadsRange (string_bytes first) None
    → Left rest all before → IsSomeNoRange (map string_bytes all)
left_here rest all more first before is found left =
    left.none (subst (λ these. IsSomeNoRange (map string_bytes these)) (sym is) (this found))

pub left_nothing : (rest all : List (String Global)) (so_far : List AddressRange)
    → length rest ≡ 0 → Left rest all so_far → AreRanges (map string_bytes all) so_far
left_nothing rest all so_far is left =
    subst (AreRanges (map string_bytes all)) (append-nil so_far)
    (left.ranges [] (subst (λ these. AreRanges (map string_bytes these) [])
    (sym (nil_from_length rest is)) nothing))
