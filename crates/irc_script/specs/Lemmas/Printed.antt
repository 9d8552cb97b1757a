-- What is appended in turn.
use Rattle.std.proofs.Common.{◌≡◌, ℕ, ◌+◌, ◌<◌, Option, Some, None, List, [], ◌∷◌, ◌++◌, length}
use Rattle.std.proofs.Common.{take, drop, get_or, ap, sym, ◌∙◌, append_assoc, append-nil}
use Rattle.std.specs.Io.KnownBytes.{Appends, Keeps}
use Rattle.std.specs.List.{flat_map}
use Rattle.std.proofs.lemmas.List.{take_more, take-append-drop, drop_more}
use Rattle.std.proofs.lemmas.Grind.{flat_map-append}

pub appends_nothing : (known : Option (List ℕ)) → Appends known known []
appends_nothing None = tt
appends_nothing (Some bytes) = sym (append-nil bytes)

pub appends_both : (old middle new : Option (List ℕ)) (first more : List ℕ)
    → Appends old middle first → Appends middle new more → Appends old new (first ++ more)
appends_both None middle new first more p q = tt
appends_both (Some xs) None new first more p q = absurd p
appends_both (Some xs) (Some ys) None first more p q = absurd q
appends_both (Some xs) (Some ys) (Some zs) first more p q = q ∙ ap (λ bytes. bytes ++ more) p
    ∙ append_assoc xs first more

-- one element more, by its place
pub more_at : {X : Type 0} (f : X → List ℕ) (xs : List X) (i : ℕ) (d : X) → i < length xs
    → flat_map f (take (i + 1) xs) ≡ flat_map f (take i xs) ++ f (get_or xs i d)
more_at f xs i d within =
    ap (flat_map f) (take_more xs i d within) ∙ flat_map-append f (take i xs) (get_or xs i d ∷ [])
    ∙ ap (λ last. flat_map f (take i xs) ++ last) (append-nil (f (get_or xs i d)))

-- the elements before one, that one, and those behind it
pub around_at : {X : Type 0} (f : X → List ℕ) (xs : List X) (i : ℕ) (d : X) → i < length xs
    → flat_map f xs ≡ (flat_map f (take i xs) ++ f (get_or xs i d)) ++ flat_map f (drop (i + 1) xs)
around_at f xs i d within =
    ap (flat_map f) (sym (take-append-drop i xs)
    ∙ ap (λ ds. take i xs ++ ds) (drop_more xs i d within))
    ∙ flat_map-append f (take i xs) (get_or xs i d ∷ drop (i + 1) xs)
    ∙ sym (append_assoc (flat_map f (take i xs)) (f (get_or xs i d)) (flat_map f (drop (i + 1) xs)))

pub keeps_appended : (old middle new : Option (List ℕ)) (bytes : List ℕ) → Appends old middle bytes
    → Keeps middle new → Appends old new bytes
keeps_appended None middle new bytes p q = tt
keeps_appended (Some xs) None new bytes p q = absurd p
keeps_appended (Some xs) (Some ys) None bytes p q = absurd q
keeps_appended (Some xs) (Some ys) (Some zs) bytes p q = q ∙ p
