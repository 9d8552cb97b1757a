-- Where no line is on its way.
use Rattle.std.proofs.Common.{◌≡◌, ℕ, Bool, true, false, cond, ◌||◌, not, Option, Some, None}
use Rattle.std.proofs.Common.{List, [], ◌∷◌, ◌++◌, ◌+◌, refl, sym, ◌∙◌, ap, is_some, unwrap_or}
use Rattle.std.proofs.Common.{zero, suc}
use Rattle.std.specs.FinMap.{contains_key-keys, get, keys}
use Rattle.std.specs.List.{find, list_all, list_any, slice_get}
use Rattle.std.specs.Option.{option_and_then, option_map_or}
use Rattle.std.proofs.lemmas.Bool.{not-true, and_parts}
use Rattle.std.proofs.lemmas.Option.{same_Some}
use Rattle.irc_stage.specs.Lemmas.Numbers.{one_number, same_number}
use Rattle.irc_network.specs.Network.{Progress, Node, delivered, direction, first_among}
use Rattle.irc_network.specs.Network.{first_way, given, is_at_rest, is_nothing, is_quiet, taken_of}
use Rattle.irc_network.specs.Network.{Network, waiting, waits}
use Rattle.irc_network.specs.Laws.{GivenIsKept, RestStays}
use Rattle.irc_network.proofs.ItemsStay.{same_items}

no_lines : (lines : List (List ℕ)) → not (is_nothing lines) ≡ false → lines ≡ []
no_lines [] is = refl
no_lines (first ∷ rest) is = cc is

-- ---- where none passes none is found

none_found : {X : Type 0} (test : X → Bool) (xs : List X) → list_any test xs ≡ false
    → find test xs ≡ None
none_found test [] is = refl
none_found test (y ∷ ys) is = by (test y) (none_found test ys) is
  where
    by : (b : Bool) → (list_any test ys ≡ false → find test ys ≡ None)
        → (b || list_any test ys) ≡ false → cond b (Some y) (find test ys) ≡ None
    by true later none = cc none
    by false later none = later none

-- ---- nothing waits where all is quiet

key_passes : (test : ℕ → Bool) (to : ℕ) (ks : List ℕ) → list_any (same_number to) ks ≡ true
    → list_any test ks ≡ false → test to ≡ false
key_passes test to [] among none = cc among
key_passes test to (k ∷ ks) among none =
    by (same_number to k) refl (key_passes test to ks) among (test k) refl none
  where
    by : (b : Bool) → same_number to k ≡ b → (list_any (same_number to) ks ≡ true
        → list_any test ks ≡ false → test to ≡ false) → (b || list_any (same_number to) ks) ≡ true
        → (d : Bool) → test k ≡ d → (d || list_any test ks) ≡ false → test to ≡ false
    by true one later is true passes left = cc left
    by true one later is false fails left = ap test (one_number to k one) ∙ fails
    by false two later is true passes left = cc left
    by false two later is false fails left = later is left

quiet_way : (node : Node) (to : ℕ) → is_quiet node ≡ true → waiting node to ≡ []
quiet_way node to quiet = by (get node.queues to) refl
  where
    by : (o : Option (List (List ℕ))) → get node.queues to ≡ o → waiting node to ≡ []
    by None is = ap (λ o. unwrap_or o []) is
    by (Some lines) is =
        no_lines (waiting node to)
        (key_passes (waits node) to (keys node.queues) (sym (contains_key-keys node.queues to)
        ∙ ap is_some is) (not-true _ quiet))

quiet_at : (nodes : List Node) (place : ℕ) → list_all is_quiet nodes ≡ true → (node : Node)
    → slice_get nodes place ≡ Some node → is_quiet node ≡ true
quiet_at [] place all node is = cc is
quiet_at (first ∷ nodes) zero all node is = ap is_quiet (sym (same_Some first node is))
    ∙ (and_parts (is_quiet first) (list_all is_quiet nodes) all).0
quiet_at (first ∷ nodes) (suc place) all node is =
    quiet_at nodes place (and_parts (is_quiet first) (list_all is_quiet nodes) all).1 node is

no_delivery : (progress : Progress Network) → is_at_rest progress.state ≡ true → (from to : ℕ)
    → delivered from to progress ≡ None
unfolding delivered
no_delivery progress rest from to = by (slice_get progress.state.nodes from) refl
  where
    by : (o : Option Node) → slice_get progress.state.nodes from ≡ o → option_and_then
        (λ (node : Node). taken_of from to progress node (waiting node to)) o ≡ None
    by None is = refl
    by (Some node) is = ap (taken_of from to progress node)
        (quiet_way node to (quiet_at progress.state.nodes from rest node is))

-- ---- the first way on which a line waits

quiet_none : (node : Node) → is_quiet node ≡ true → first_way node ≡ None
quiet_none node quiet = none_found (waits node) (keys node.queues) (not-true _ quiet)

no_first : (place : ℕ) (nodes : List Node) → list_all is_quiet nodes ≡ true
    → first_among place nodes ≡ None
no_first place [] all = refl
no_first place (node ∷ nodes) all =
    ap (λ o. option_map_or (λ to. Some (direction place to)) o (first_among (place + 1) nodes))
    (quiet_none node (and_parts (is_quiet node) (list_all is_quiet nodes) all).0)
    ∙ no_first (place + 1) nodes (and_parts (is_quiet node) (list_all is_quiet nodes) all).1

pub rest_stays : RestStays
rest_stays progress rest =
    record { no_line = no_delivery progress rest; no_way = no_first 0 progress.state.nodes rest }

pub given_is_kept : GivenIsKept
unfolding given
given_is_kept item net =
    record { items = ap (λ items. items ++ item ∷ []) (same_items item net); taken = refl }
