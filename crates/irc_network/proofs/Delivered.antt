-- A line that is heard is one that is delivered where links carry lines.
use Rattle.std.proofs.Common.{◌≡◌, ◌≢◌, ℕ, zero, suc, Bool, true, false, cond, Option, Some, None}
use Rattle.std.proofs.Common.{List, [], ◌∷◌, ◌++◌, refl, sym, ◌∙◌, ap, option_map, unwrap_or}
use Rattle.std.specs.FinMap.{get, insert}
use Rattle.std.specs.List.{slice_get, slice_set}
use Rattle.std.specs.Option.{option_and_then}
use Rattle.std.proofs.Math.Nat.{suc_inj}
use Rattle.irc_line.specs.Reading.{read_of}
use Rattle.irc_server.specs.Served.{link_says}
use Rattle.irc_stage.specs.Lemmas.Numbers.{get-with, one_number, same_number, same_number-refl}
use Rattle.irc_network.specs.Network.{Progress, Node, node_asked, line_counted, delivered, left}
use Rattle.irc_network.specs.Network.{Network, node_at, taken_of, waiting, with_node, heard}
use Rattle.irc_network.specs.Behind.{Ahead, net_behind, progress_behind, each_way, node_behind}
use Rattle.irc_network.specs.Behind.{nodes_behind}
use Rattle.irc_network.proofs.Behind.{asked-behind, at-behind}
use Rattle.irc_network.specs.Lemmas.Ways.{get-each_way, same_ways, waiting_behind}

-- other lines are ahead on one way alone
pub record IsLeftOn (from to : ℕ) (rest : List (List ℕ)) (ahead now : Ahead) : Type 0 where
  pub there : now from to ≡ rest
  pub same_from : (x : ℕ) → x ≢ to → now from x ≡ ahead from x
  pub others : (place : ℕ) → place ≢ from → (x : ℕ) → now place x ≡ ahead place x

same_node : (one other : ℕ → List (List ℕ)) (node : Node) → ((x : ℕ) → one x ≡ other x)
    → node_behind one node ≡ node_behind other node
same_node one other node alike = ap (λ ways. record node { queues = ways })
    (same_ways (each_way (λ to lines. one to ++ lines) node.queues)
    (each_way (λ to lines. other to ++ lines) node.queues) (λ to.
    get-each_way (λ to lines. one to ++ lines) node.queues to ∙ by to (get node.queues to)
    ∙ sym (get-each_way (λ to lines. other to ++ lines) node.queues to)))
  where
    by : (to : ℕ) (o : Option (List (List ℕ)))
        → option_map (λ lines. one to ++ lines) o ≡ option_map (λ lines. other to ++ lines) o
    by to None = refl
    by to (Some lines) = ap (λ front. Some (front ++ lines)) (alike to)

pub same_nodes : (one other : Ahead) (nodes : List Node) → ((place x : ℕ)
    → one place x ≡ other place x) → nodes_behind one nodes ≡ nodes_behind other nodes
same_nodes one other [] alike = refl
same_nodes one other (node ∷ nodes) alike = λ i.
    same_node (one 0) (other 0) node (alike 0) i ∷ same_nodes (λ n. one (suc n))
    (λ n. other (suc n)) nodes (λ n. alike (suc n)) i

never : (n : ℕ) → suc n ≡ 0 → ⊥
never n is = cc is

set_other : (from : ℕ) (one other : Ahead) (nodes : List Node) (node : Node) → slice_get nodes from
    ≡ Some node → ((place : ℕ) → place ≢ from → (x : ℕ) → other place x ≡ one place x) → slice_set
    (nodes_behind one nodes) from (node_behind (other from) node) ≡ nodes_behind other nodes
set_other from one other [] node is alike = cc is
set_other zero one other (first ∷ nodes) node is alike = λ i.
    node_behind (other 0) (same_first i) ∷ same_nodes (λ n. one (suc n)) (λ n. other (suc n)) nodes
    (λ n x. sym (alike (suc n) (never n) x)) i
  where
    same_first : node ≡ first
    same_first = ap (λ o. unwrap_or o node) (sym is)
set_other (suc from) one other (first ∷ nodes) node is alike = λ i.
    same_node (one 0) (other 0) first (λ x. sym (alike 0 (λ e. never from (sym e)) x)) i
    ∷ set_other from (λ n. one (suc n)) (λ n. other (suc n)) nodes node is
    (λ place two. alike (suc place) (λ e. two (suc_inj e))) i

module _ (from to : ℕ) (line : List ℕ) (rest : List (List ℕ)) (ahead now : Ahead)
    (first : ahead from to ≡ line ∷ rest)
    (is_left : IsLeftOn from to rest ahead now)
    (progress : Progress Network) (node : Node) (at : node_at progress.state from ≡ Some node)
    (lines : List (List ℕ)) (way : get node.queues to ≡ Some lines) where
  node_left : left to (rest ++ lines) (node_behind (ahead from) node) ≡ node_behind (now from) node
  node_left = ap (λ ways. record node { queues = ways })
      (same_ways (insert (each_way (λ q more. ahead from q ++ more) node.queues) to (rest ++ lines))
      (each_way (λ q more. now from q ++ more) node.queues) (λ q.
      get-with (each_way (λ p more. ahead from p ++ more) node.queues) to (rest ++ lines) q
      ∙ ap (cond (same_number q to) (Some (rest ++ lines)))
      (get-each_way (λ p more. ahead from p ++ more) node.queues q)
      ∙ by q (same_number q to) refl
      ∙ sym (get-each_way (λ p more. now from p ++ more) node.queues q)))
    where
      apart : (q : ℕ) → same_number q to ≡ false → q ≢ to
      apart q two e = cc (sym (ap (λ n. same_number n to) e ∙ same_number-refl to) ∙ two)

      others : (q : ℕ) (o : Option (List (List ℕ))) → now from q ≡ ahead from q
          → option_map (λ more. ahead from q ++ more) o ≡ option_map (λ more. now from q ++ more) o
      others q None alike = refl
      others q (Some more) alike = ap (λ front. Some (front ++ more)) (sym alike)

      by : (q : ℕ) (b : Bool) → same_number q to ≡ b → cond b (Some (rest ++ lines))
          (option_map (λ more. ahead from q ++ more) (get node.queues q))
          ≡ option_map (λ more. now from q ++ more) (get node.queues q)
      by q true one =
          ap (λ front. Some (front ++ lines)) (sym is_left.there)
          ∙ ap (option_map (λ more. now from to ++ more)) (sym way)
          ∙ ap (λ n. option_map (λ more. now from n ++ more) (get node.queues n))
          (sym (one_number q to one))
      by q false two = others q (get node.queues q) (is_left.same_from q (apart q two))

  net_left : with_node from (left to (rest ++ lines) (node_behind (ahead from) node))
      (net_behind ahead progress.state) ≡ net_behind now progress.state
  net_left = ap (λ nodes. record progress.state { nodes = nodes })
      (ap (slice_set (nodes_behind ahead progress.state.nodes) from) node_left
      ∙ set_other from ahead now progress.state.nodes node at is_left.others)

  pub one_delivered : delivered from to (progress_behind ahead progress)
      ≡ Some (progress_behind now (heard from to progress line))
  unfolding delivered
  one_delivered =
      ap (option_and_then
      (λ (s : Node). taken_of from to (progress_behind ahead progress) s (waiting s to)))
      (at-behind ahead progress.state from ∙ ap (option_map (node_behind (ahead from))) at)
      ∙ ap (taken_of from to (progress_behind ahead progress) (node_behind (ahead from) node))
      (waiting_behind (ahead from) node to lines way ∙ ap (λ front. front ++ lines) first)
      ∙ ap (λ net. Some (node_asked to (link_says from (read_of line))
      (record progress { state = line_counted net }))) net_left
      ∙ ap Some (asked-behind now to (link_says from (read_of line))
      (record progress { state = line_counted progress.state }))
