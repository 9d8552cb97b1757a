-- Lines in front of those of each way: of what is done to the ways of a node.
use Rattle.std.proofs.Common.{◌≡◌, ℕ, Bool, true, false, cond, Option, Some, None, List, [], ◌∷◌}
use Rattle.std.proofs.Common.{◌++◌, refl, sym, ◌∙◌, ap, append_assoc, map, option_map, unwrap_or}
use Rattle.std.specs.Cmp.{nat_cmp_total}
use Rattle.std.specs.FinMap.{entries, find, get, get-entries, get-from_entries, insert}
use Rattle.std.specs.FinMap.{nat_cmp-IsAntisymmetric, remove, same_map}
use Rattle.std.specs.Option.{option_map_or}
use Rattle.std.specs.Ordering.{nat_cmp}
use Rattle.irc_stage.specs.Lemmas.Numbers.{get-with, get-without, one_number, same_number}
use Rattle.irc_network.specs.Network.{Node, line_body, left, line_queued, waiting, with_way}
use Rattle.irc_network.specs.Network.{without_way}
use Rattle.irc_network.specs.Behind.{LineQueues, each_way, node_behind}

abbrev Change : Type 0
Change = ℕ → List (List ℕ) → List (List ℕ)

pub same_ways : (one other : LineQueues) → ((to : ℕ) → get one to ≡ get other to) → one ≡ other
same_ways one other alike = same_map nat_cmp_total nat_cmp-IsAntisymmetric one other alike

module _ (change : Change) where
  find_each : (to : ℕ) (es : List (ℕ × List (List ℕ)))
      → find nat_cmp to (map (λ (e : ℕ × List (List ℕ)). (e.0, change e.0 e.1)) es)
      ≡ option_map (change to) (find nat_cmp to es)
  find_each to [] = refl
  find_each to (e ∷ es) = by (same_number to e.0) refl (find_each to es)
    where
      by : (b : Bool) → same_number to e.0 ≡ b
          → find nat_cmp to (map (λ (e : ℕ × List (List ℕ)). (e.0, change e.0 e.1)) es)
          ≡ option_map (change to) (find nat_cmp to es) → cond b (Some (change e.0 e.1))
          (find nat_cmp to (map (λ (e : ℕ × List (List ℕ)). (e.0, change e.0 e.1)) es))
          ≡ option_map (change to) (cond b (Some e.1) (find nat_cmp to es))
      by true one rest = ap (λ n. Some (change n e.1)) (sym (one_number to e.0 one))
      by false two rest = rest

  pub get-each_way : (ways : LineQueues) (to : ℕ)
      → get (each_way change ways) to ≡ option_map (change to) (get ways to)
  get-each_way ways to =
      get-from_entries nat_cmp_total
      (map (λ (e : ℕ × List (List ℕ)). (e.0, change e.0 e.1)) (entries ways)) to
      ∙ find_each to (entries ways) ∙ ap (option_map (change to)) (sym (get-entries ways to))

  pub each-insert : (ways : LineQueues) (to : ℕ) (lines : List (List ℕ))
      → insert (each_way change ways) to (change to lines) ≡ each_way change (insert ways to lines)
  each-insert ways to lines = same_ways (insert (each_way change ways) to (change to lines))
      (each_way change (insert ways to lines)) (λ q.
      get-with (each_way change ways) to (change to lines) q
      ∙ ap (cond (same_number q to) (Some (change to lines))) (get-each_way ways q)
      ∙ by q (same_number q to) refl
      ∙ ap (option_map (change q)) (sym (get-with ways to lines q))
      ∙ sym (get-each_way (insert ways to lines) q))
    where
      by : (q : ℕ) (b : Bool) → same_number q to ≡ b → cond b (Some (change to lines)) (option_map
          (change q) (get ways q)) ≡ option_map (change q) (cond b (Some lines) (get ways q))
      by q true one = ap (λ n. Some (change n lines)) (sym (one_number q to one))
      by q false two = refl

  pub each-remove : (ways : LineQueues) (to : ℕ)
      → remove (each_way change ways) to ≡ each_way change (remove ways to)
  each-remove ways to =
      same_ways (remove (each_way change ways) to) (each_way change (remove ways to)) (λ q.
      get-without (each_way change ways) to q
      ∙ ap (cond (same_number q to) None) (get-each_way ways q) ∙ by q (same_number q to)
      ∙ ap (option_map (change q)) (sym (get-without ways to q))
      ∙ sym (get-each_way (remove ways to) q))
    where
      by : (q : ℕ) (b : Bool) → cond b None (option_map (change q) (get ways q))
          ≡ option_map (change q) (cond b None (get ways q))
      by q true = refl
      by q false = refl

-- changes that agree on the ways that there are
pub each_alike : (one other : Change) (ways : LineQueues)
    → ((to : ℕ) (lines : List (List ℕ)) → get ways to ≡ Some lines → one to lines ≡ other to lines)
    → each_way one ways ≡ each_way other ways
each_alike one other ways alike = same_ways (each_way one ways) (each_way other ways) (λ to.
    get-each_way one ways to ∙ by to (get ways to) refl ∙ sym (get-each_way other ways to))
  where
    by : (to : ℕ) (o : Option (List (List ℕ))) → get ways to ≡ o
        → option_map (one to) o ≡ option_map (other to) o
    by to None is = refl
    by to (Some lines) is = ap Some (alike to lines is)

-- one change behind another
pub each_twice : (one other : Change) (ways : LineQueues)
    → each_way one (each_way other ways) ≡ each_way (λ to lines. one to (other to lines)) ways
each_twice one other ways = same_ways (each_way one (each_way other ways))
    (each_way (λ to lines. one to (other to lines)) ways) (λ to.
    get-each_way one (each_way other ways) to
    ∙ ap (option_map (one to)) (get-each_way other ways to) ∙ by to (get ways to)
    ∙ sym (get-each_way (λ to lines. one to (other to lines)) ways to))
  where
    by : (to : ℕ) (o : Option (List (List ℕ))) → option_map (one to) (option_map (other to) o)
        ≡ option_map (λ lines. one to (other to lines)) o
    by to None = refl
    by to (Some lines) = refl

-- ---- a node's ways

module _ (ahead : ℕ → List (List ℕ)) where
  abbrev front : Change
  front to lines = ahead to ++ lines

  pub waiting_behind : (node : Node) (to : ℕ) (lines : List (List ℕ))
      → get node.queues to ≡ Some lines → waiting (node_behind ahead node) to
      ≡ ahead to ++ lines
  waiting_behind node to lines is =
      ap (λ o. unwrap_or o []) (get-each_way front node.queues to ∙ ap (option_map (front to)) is)

  pub none_waiting : (node : Node) (to : ℕ) → get node.queues to ≡ None
      → waiting (node_behind ahead node) to ≡ []
  none_waiting node to is =
      ap (λ o. unwrap_or o []) (get-each_way front node.queues to ∙ ap (option_map (front to)) is)

  pub queued_behind : (to : ℕ) (text : List ℕ) (node : Node)
      → line_queued to text (node_behind ahead node) ≡ node_behind ahead (line_queued to text node)
  queued_behind to text node =
      ap (λ o. option_map_or (put (node_behind ahead node)) o (node_behind ahead node))
      (get-each_way front node.queues to)
      ∙ by (get node.queues to)
    where
      put : Node → List (List ℕ) → Node
      put node lines = record node { queues = insert node.queues to (lines ++ line_body text ∷ []) }

      by : (o : Option (List (List ℕ))) → option_map_or (put (node_behind ahead node))
          (option_map (front to) o) (node_behind ahead node)
          ≡ node_behind ahead (option_map_or (put node) o node)
      by None = refl
      by (Some lines) =
          ap (λ more. record node { queues = insert (each_way front node.queues) to more })
          (append_assoc (ahead to) lines (line_body text ∷ []))
          ∙ ap (λ ways. record node { queues = ways })
          (each-insert front node.queues to (lines ++ line_body text ∷ []))

  pub left_behind : (to : ℕ) (lines : List (List ℕ)) (node : Node)
      → left to (ahead to ++ lines) (node_behind ahead node) ≡ node_behind ahead
      (left to lines node)
  left_behind to lines node =
      ap (λ ways. record node { queues = ways }) (each-insert front node.queues to lines)

  -- a way is opened on which nothing is ahead
  pub opened_behind : (to : ℕ) (node : Node) → ahead to ≡ []
      → with_way to (node_behind ahead node) ≡ node_behind ahead (with_way to node)
  opened_behind to node none =
      ap (λ lines. record node { queues = insert (each_way front node.queues) to (lines ++ []) })
      (sym none)
      ∙ ap (λ ways. record node { queues = ways }) (each-insert front node.queues to [])

  pub closed_behind : (to : ℕ) (node : Node)
      → without_way to (node_behind ahead node) ≡ node_behind ahead (without_way to node)
  closed_behind to node =
      ap (λ ways. record node { queues = ways }) (each-remove front node.queues to)
