-- Receipts that are printed in turn.
use Rattle.std.proofs.Common.{◌≡◌, ℕ, ◌+◌, ◌<◌, List, [], ◌∷◌, ◌++◌, length, take, drop, get_or, ap}
use Rattle.std.proofs.Common.{sym, ◌∙◌, append-nil}
use Rattle.std.proofs.lemmas.List.{map-append, take_more, take-append-drop}
use Rattle.std.proofs.lemmas.Grind.{flat_map-append}
use Rattle.std.specs.List.{flat_map}
use Rattle.irc_net.specs.receipt.Receipt.{Receipt}
use Rattle.irc_net.specs.NetworkViews.{receipt_of, receipts_of}
use Rattle.irc_script.specs.Printing.{printed}

abbrev pub text_of : List Receipt → List ℕ
text_of receipts = flat_map printed (receipts_of receipts)

text_append : (front back : List Receipt) → text_of (front ++ back) ≡ text_of front ++ text_of back
text_append front back = ap (flat_map printed) (map-append receipt_of front back)
    ∙ flat_map-append printed (receipts_of front) (receipts_of back)

text_alone : (receipt : Receipt) → text_of (receipt ∷ []) ≡ printed (receipt_of receipt)
text_alone receipt = append-nil (printed (receipt_of receipt))

-- one receipt more, by its place
pub receipt_more : (receipts : List Receipt) (i : ℕ) (d : Receipt)
    → i < length receipts → d ≡ get_or receipts i d
    → text_of (take (i + 1) receipts) ≡ text_of (take i receipts) ++ printed (receipt_of d)
receipt_more receipts i d within is =
    ap text_of (take_more receipts i d within)
    ∙ text_append (take i receipts) (get_or receipts i d ∷ [])
    ∙ ap (λ t. text_of (take i receipts) ++ t) (text_alone (get_or receipts i d))
    ∙ ap (λ r. text_of (take i receipts) ++ printed (receipt_of r)) (sym is)

-- the receipts before one, that one, and those behind it
pub receipts_around : (receipts : List Receipt) (i : ℕ) (d : Receipt)
    → i < length receipts → d ≡ get_or receipts i d → text_of receipts
    ≡ (text_of (take i receipts) ++ printed (receipt_of d)) ++ text_of (drop (i + 1) receipts)
receipts_around receipts i d within is =
    ap text_of (sym (take-append-drop (i + 1) receipts))
    ∙ text_append (take (i + 1) receipts) (drop (i + 1) receipts)
    ∙ ap (λ t. t ++ text_of (drop (i + 1) receipts)) (receipt_more receipts i d within is)
