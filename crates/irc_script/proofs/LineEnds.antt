-- The last piece of a text.
use Rattle.std.proofs.Common.{◌≡◌, ℕ, true, false, List, [], ◌∷◌, ◌++◌, ap, sym, refl, ◌∙◌, Bor}
use Rattle.std.proofs.Common.{length, ◌==◌, arith}
use Rattle.std.proofs.lemmas.Bool.Decides.{nat_tests}
use Rattle.std.proofs.lemmas.List.{map-append}
use Rattle.irc_line.specs.Lines.{is_empty, last_piece, earlier_pieces}
use Rattle.irc_script.specs.Scripts.{ended}
use Rattle.irc_script.specs.ScriptViews.{lines_now}

last_piece-append : (ps : List (List ℕ)) (p : List ℕ) → last_piece (ps ++ p ∷ []) ≡ p
last_piece-append [] p = refl
last_piece-append (q ∷ []) p = refl
last_piece-append (q ∷ r ∷ ps) p = last_piece-append (r ∷ ps) p

earlier_pieces-append : (ps : List (List ℕ)) (p : List ℕ) → earlier_pieces (ps ++ p ∷ []) ≡ ps
earlier_pieces-append [] p = refl
earlier_pieces-append (q ∷ []) p = refl
earlier_pieces-append (q ∷ r ∷ ps) p = ap (λ qs. q ∷ qs) (earlier_pieces-append (r ∷ ps) p)

-- an empty last piece is no line
pub dropped : (ps : List (List ℕ)) (p : List ℕ) → is_empty p ≡ true → ended (ps ++ p ∷ []) ≡ ps
dropped ps p e = rw (last_piece-append ps p) (rw e (earlier_pieces-append ps p))

-- another last piece is one
pub kept : (ps : List (List ℕ)) (p : List ℕ) → is_empty p ≡ false
    → ended (ps ++ p ∷ []) ≡ ps ++ p ∷ []
kept ps p e = rw (last_piece-append ps p) (rw e refl)

pub is_empty-length : (bytes : List ℕ) → is_empty bytes ≡ (length bytes == 0)
is_empty-length [] = refl
is_empty-length (b ∷ bytes) = grind (arith, nat_tests)

-- the same of the code's pieces
pub dropped_now : (all front : List (Bor (List ℕ))) (last : Bor (List ℕ)) → all ≡ front ++ last ∷ []
    → is_empty last.now ≡ true → lines_now front ≡ ended (lines_now all)
dropped_now all front last e empty =
    sym (ap (λ ps. ended (lines_now ps)) e ∙ ap ended (map-append (λ p. p.now) front (last ∷ []))
    ∙ dropped (lines_now front) last.now empty)

pub kept_now : (all front : List (Bor (List ℕ))) (last : Bor (List ℕ)) → all ≡ front ++ last ∷ []
    → is_empty last.now ≡ false → lines_now all ≡ ended (lines_now all)
kept_now all front last e some =
    let parts : lines_now all ≡ lines_now front ++ last.now ∷ [] =
    ap lines_now e ∙ map-append (λ p. p.now) front (last ∷ []) in
    parts ∙ sym (ap ended parts ∙ kept (lines_now front) last.now some)
