-- What stands at a place, and what is put there.
use Rattle.std.proofs.Common.{◌≡◌, ◌<◌, ℕ, zero, suc, Option, Some, None, Result, Ok, Err}
use Rattle.std.proofs.Common.{OnErr, OnOk, List, [], ◌∷◌, ◌++◌, refl, sym, ◌∙◌, ap, arith, length}
use Rattle.std.proofs.Common.{is_some}
use Rattle.std.specs.Borrow.{Bor}
use Rattle.std.proofs.lemmas.List.{map-append}
use Rattle.std.specs.List.{slice_get, slice_set}
use Rattle.std.specs.Option.{option_copied, option_map_or}
use Rattle.std.proofs.lemmas.Option.{same_Some}
use Rattle.irc_forest.specs.Forests.{Forest}
use Rattle.irc_relay.specs.Links.{Name}
use Rattle.irc_network.specs.declared.receipt.Receipt.{Receipt as KeptReceipt}
use Rattle.irc_network.specs.Histories.{Becomes, Past, line_behind, with_line}
use Rattle.irc_network.specs.Loops.Progress.{progress_of}
use Rattle.irc_pipes.specs.Pipes.{Pipes}
use Rattle.irc_network.specs.ByteNetwork.{ByteNetwork}
use Rattle.irc_network.specs.Network.{Network, Receipt, Node, has_received}
use Rattle.irc_network.specs.Network.{has_received_at, receipt}
use Rattle.irc_network.specs.Views.{receipt_of, receipts_of}

-- a network as its code has it
abbrev pub seen : Forest → List Node → List Name → Past → ℕ → Network
seen forest nodes homes past taken = record {
  names = forest.names;
  nodes = nodes;
  links = forest.links;
  homes = homes;
  received = past.received;
  items = past.items;
  taken = taken;
}

abbrev pub whole : Forest → List Node → Pipes → List Name → Past → ℕ → ByteNetwork
whole forest nodes pipes homes past taken =
    record { network = seen forest nodes homes past taken; pipes = pipes }

pub some_copied : {X : Type 0} (o : Option (Bor X)) → is_some o ≡ is_some (option_copied o)
some_copied None = refl
some_copied (Some x) = refl

not_none : {X : Type 0} (xs : List X) (i : ℕ) → slice_get xs i ≡ None → i < length xs → ⊥
not_none [] i none within = omega (arith, within)
not_none (y ∷ xs) zero none within = cc none
not_none (y ∷ xs) (suc i) none within = not_none xs i none (omega (arith, within))

-- what is put where it was changes nothing
pub set_again : {X : Type 0} (xs : List X) (i : ℕ) (x : X) → slice_get xs i ≡ Some x
    → slice_set xs i x ≡ xs
set_again [] i x is = refl
set_again (y ∷ xs) zero x is = ap (λ z. z ∷ xs) (sym (same_Some y x is))
set_again (y ∷ xs) (suc i) x is = ap (λ zs. y ∷ zs) (set_again xs i x is)

-- ---- a line is received

abbrev pub with_past : Past → Network → Network
with_past past net = record net { received = past.received; items = past.items }

abbrev pub past_of : Network → Past
past_of net = record { items = net.items; received = net.received }

-- as many clients as homes, so one that has a home has its lines
pub received_one : (net : Network) (receipts more : List KeptReceipt) (client earlier : ℕ)
    (text : List ℕ) (past : Past) (kept : KeptReceipt) → length net.received ≡ length net.homes
    → client ≡ suc earlier → earlier < length net.homes → past ≡ with_line earlier text
    (past_of net) → more ≡ receipts ++ kept ∷ [] → receipt_of kept ≡ receipt client text
    → progress_of (with_past past net) more ≡ has_received client text (progress_of net receipts)
received_one net receipts more client earlier text past kept each number within put behind kept_is =
    by (slice_get net.received earlier) refl
  where
    told : receipts_of more ≡ receipts_of receipts ++ receipt (suc earlier) text ∷ []
    told =
        ap receipts_of behind ∙ map-append receipt_of receipts (kept ∷ [])
        ∙ ap (λ r. receipts_of receipts ++ r ∷ []) (kept_is ∙ ap (λ n. receipt n text) number)

    by : (o : Option (List (List ℕ))) → slice_get net.received earlier ≡ o → progress_of
        (with_past past net) more ≡ has_received client text (progress_of net receipts)
    by None none = absurd (not_none net.received earlier none (omega (arith, each, within)))
    by (Some lines) is =
        ap (λ (p : Past). progress_of (with_past p net) more) (put
        ∙ ap (λ o. option_map_or (line_behind earlier text (past_of net)) o (past_of net)) is)
        ∙ ap (λ (rs : List Receipt). record {
          state = with_past
              (line_behind earlier text (past_of net) lines) net;
          out = rs;
        }) told
        ∙ sym (ap (λ o. option_map_or (has_received_at earlier text (progress_of net receipts)) o
        (progress_of net receipts)) is)
        ∙ ap (λ n. has_received n text (progress_of net receipts)) (sym number)

-- a line is put behind those of a client, or memory ran out
pub put_behind : {E : Type 0} (result : Result (Unit {0}) E) (past : Past) (earlier : ℕ)
    (text : List ℕ) (lines new : List (List ℕ)) → slice_get past.received earlier ≡ Some lines
    → OnOk result (new ≡ lines ++ text ∷ []) → OnErr result (new ≡ lines) → Becomes result
    (with_line earlier text) past (record past { received = slice_set past.received earlier new })
put_behind (Ok _) past earlier text lines new is put want =
    ap (λ (ls : List (List ℕ)). record past { received = slice_set past.received earlier ls }) put
    ∙ sym (ap (λ o. option_map_or (line_behind earlier text past) o past) is)
put_behind (Err _) past earlier text lines new is put want =
    ap (λ (inboxes : List (List (List ℕ))). record past { received = inboxes })
    (ap (slice_set past.received earlier) want ∙ set_again past.received earlier lines is)
