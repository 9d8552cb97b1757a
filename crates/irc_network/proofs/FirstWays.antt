-- The first way on which a line waits is the first direction in which a byte is on its way, where
-- only bytes bring lines.
use Rattle.std.proofs.Common.{◌≡◌, ℕ, suc, ◌+◌, ◌<◌, Bool, true, false, not, ◌||◌, cond, is_some}
use Rattle.std.proofs.Common.{Option, Some, None, List, [], ◌∷◌, ◌++◌, length, map, refl, sym, ◌∙◌}
use Rattle.std.proofs.Common.{ap, subst, arith, option_map, unwrap_or}
use Rattle.std.proofs.lemmas.Bool.{and_parts, or_right}
use Rattle.std.specs.declared.cmp.Ordering.{Ordering}
use Rattle.std.specs.declared.cmp.Ordering.TheVariants.{Less, Equal, Greater}
use Rattle.std.specs.Prelude.{⊤}
use Rattle.std.specs.Cmp.{ranks}
use Rattle.std.specs.FinMap.{FinMap, contains_key-keys, entries, entries_sorted, get, keys}
use Rattle.std.specs.FinMap.Entries.{below_all, is_sorted}
use Rattle.std.specs.List.{find, list_any, slice_get}
use Rattle.std.specs.Option.{option_and_then, option_map_or}
use Rattle.std.specs.Ordering.{MatchOrdering, is_lt, nat_cmp}
use Rattle.irc_names.specs.Lemmas.PlainFacts.{is_true}
use Rattle.irc_stage.specs.Lemmas.Numbers.{one_number, same_number, same_number-refl}
use Rattle.irc_network.specs.Network.{Node, direction, first_among}
use Rattle.irc_network.specs.Network.{first_way, is_nothing, waiting, waits}
use Rattle.irc_pipes.specs.Pipes.{Direction, LinkPipe, Pipes, first_from, first_in, has_byte}
use Rattle.irc_pipes.specs.Pipes.{new_pipe}
use Rattle.irc_pipes.specs.Pipes.{pipe_at, pipe_in}
use Rattle.irc_network.specs.Behind.{Ahead, node_behind, nodes_behind}
use Rattle.irc_network.specs.Lemmas.Ways.{get-each_way, none_waiting, waiting_behind}

-- ---- the first of rising numbers that passes

abbrev has_number : ℕ → List ℕ → Bool
has_number n numbers = list_any (same_number n) numbers

-- each is below those behind it
abbrev Rise : List ℕ → Type 0
Rise [] = ⊤
Rise (n ∷ numbers) = ((x : ℕ) → has_number x numbers ≡ true → n < x) × Rise numbers

-- one that passes, and none below it does
record IsFirst (test : ℕ → Bool) (numbers : List ℕ) (to : ℕ) : Type 0 where
  there : has_number to numbers ≡ true
  passes : test to ≡ true
  before : (x : ℕ) → x < to → has_number x numbers ≡ true → test x ≡ false

is_first : (test : ℕ → Bool) (numbers : List ℕ) (to : ℕ) → Rise numbers
    → find test numbers ≡ Some to → IsFirst test numbers to
is_first test [] to rise found = cc found
is_first test (n ∷ numbers) to rise found = by (test n) refl (is_first test numbers to rise.1) found
  where
    none_below : (x : ℕ) → x < n → (b : Bool) → same_number x n ≡ b
        → (b || has_number x numbers) ≡ true → test x ≡ false
    none_below x less true one is =
        let same = one_number x n one in absurd (omega (arith, less, same))
    none_below x less false two is = let above = rise.0 x is in absurd (omega (arith, less, above))

    first_fails : test n ≡ false → (x : ℕ) → (has_number x numbers ≡ true → test x ≡ false)
        → (b : Bool) → same_number x n ≡ b → (b || has_number x numbers) ≡ true → test x ≡ false
    first_fails fails x later true one is = ap test (one_number x n one) ∙ fails
    first_fails fails x later false two is = later is

    by : (b : Bool) → test n ≡ b → (find test numbers ≡ Some to → IsFirst test numbers to)
        → cond b (Some n) (find test numbers) ≡ Some to → IsFirst test (n ∷ numbers) to
    by true passes later is =
        subst (IsFirst test (n ∷ numbers)) (ap (λ o. unwrap_or o n) is) (record {
          there = ap (λ b. b || has_number n numbers) (same_number-refl n);
          passes = passes;
          before = λ x less. none_below x less (same_number x n) refl;
        })
    by false fails later is =
        let first = later is in
        record {
          there = or_right (same_number to n) (has_number to numbers) first.there;
          passes = first.passes;
          before = λ x less. first_fails fails x (first.before x less) (same_number x n) refl;
        }

first_found : (test : ℕ → Bool) (numbers : List ℕ) (to : ℕ) → Rise numbers → IsFirst test numbers to
    → find test numbers ≡ Some to
first_found test [] to rise first = cc first.there
first_found test (n ∷ numbers) to rise first =
    by (test n) refl (same_number to n) refl first.there (first_found test numbers to rise.1)
  where
    by : (b : Bool) → test n ≡ b → (c : Bool) → same_number to n ≡ c → (c || has_number to numbers)
        ≡ true → (IsFirst test numbers to → find test numbers ≡ Some to)
        → cond b (Some n) (find test numbers) ≡ Some to
    by true passes true one is later = ap Some (sym (one_number to n one))
    by true passes false two is later =
        cc (sym passes ∙ first.before n (rise.0 to is)
        (ap (λ b. b || has_number n numbers) (same_number-refl n)))
    by false fails true one is later = cc (sym first.passes ∙ ap test (one_number to n one) ∙ fails)
    by false fails false two is later = later (record {
      there = is;
      passes = first.passes;
      before = λ x less there. first.before x less
          (or_right (same_number x n) (has_number x numbers) there);
    })

none_passes : (test : ℕ → Bool) (numbers : List ℕ) → find test numbers ≡ None → (x : ℕ)
    → has_number x numbers ≡ true → test x ≡ false
none_passes test [] none x there = cc there
none_passes test (n ∷ numbers) none x there =
    by (test n) refl (none_passes test numbers) none (same_number x n) refl there
  where
    by : (b : Bool) → test n ≡ b → (find test numbers ≡ None → (y : ℕ) → has_number y numbers ≡ true
        → test y ≡ false) → cond b (Some n) (find test numbers) ≡ None → (c : Bool)
        → same_number x n ≡ c → (c || has_number x numbers) ≡ true → test x ≡ false
    by true passes later found c same is = cc found
    by false fails later found true one is = ap test (one_number x n one) ∙ fails
    by false fails later found false two is = later found x is

none_found : (test : ℕ → Bool) (numbers : List ℕ) → ((x : ℕ) → test x ≡ false)
    → find test numbers ≡ None
none_found test [] none = refl
none_found test (n ∷ numbers) none = ap (λ b. cond b (Some n) (find test numbers)) (none n)
    ∙ none_found test numbers none

-- ---- the keys of a map rise

below : (x y : ℕ) → is_lt (nat_cmp x y) ≡ true → x < y
below x y is = by (nat_cmp x y) (ranks x y) is
  where
    by : (r : Ordering) → MatchOrdering r (x < y) (x ≡ y) (y < x) → is_lt r ≡ true → x < y
    by Less less is = less
    by Equal same is = cc is
    by Greater more is = cc is

module _ {X : Type 0} where
  all_above : (n : ℕ) (es : List (ℕ × X)) → below_all nat_cmp n es ≡ true → (x : ℕ)
      → has_number x (map (λ e. e.0) es) ≡ true → n < x
  all_above n [] above x there = cc there
  all_above n (e ∷ es) above x there =
      by (same_number x e.0) refl there
      (all_above n es (and_parts (is_lt (nat_cmp n e.0)) (below_all nat_cmp n es) above).1 x)
    where
      by : (b : Bool) → same_number x e.0 ≡ b → (b || has_number x (map (λ e. e.0) es)) ≡ true
          → (has_number x (map (λ e. e.0) es) ≡ true → n < x) → n < x
      by true one is later =
          subst (λ m. n < m) (sym (one_number x e.0 one))
          (below n e.0 (and_parts (is_lt (nat_cmp n e.0)) (below_all nat_cmp n es) above).0)
      by false two is later = later is

  rise_of : (es : List (ℕ × X)) → is_sorted nat_cmp es ≡ true → Rise (map (λ e. e.0) es)
  rise_of [] sorted = tt
  rise_of (e ∷ es) sorted =
      let parts = and_parts (below_all nat_cmp e.0 es) (is_sorted nat_cmp es) sorted in
      (all_above e.0 es parts.0, rise_of es parts.1)

  keys_rise : (m : FinMap nat_cmp X) → Rise (keys m)
  keys_rise m = rise_of (entries m) (is_true (is_sorted nat_cmp (entries m)) (entries_sorted m))

-- ---- a row of pipes, and the node that they are from

some_front : (front lines : List (List ℕ)) → is_nothing front ≡ false
    → not (is_nothing (front ++ lines)) ≡ true
some_front [] lines some = cc some
some_front (first ∷ front) lines some = refl

module _ (row : FinMap nat_cmp LinkPipe) (node : Node) (ahead : ℕ → List (List ℕ))
    (only : (x : ℕ) → has_byte (pipe_in x row) ≡ false → ahead x ≡ [])
    (quiet : (x : ℕ) → waiting node x ≡ []) where
  none_waits : (x : ℕ) → ahead x ≡ [] → waits (node_behind ahead node) x ≡ false
  none_waits x none = by (get node.queues x) refl
    where
      by : (o : Option (List (List ℕ))) → get node.queues x ≡ o
          → waits (node_behind ahead node) x ≡ false
      by None at = ap (λ lines. not (is_nothing lines)) (none_waiting ahead node x at)
      by (Some lines) at =
          ap (λ all. not (is_nothing all))
          (waiting_behind ahead node x lines at ∙ ap (λ front. front ++ lines) none
          ∙ sym (ap (λ o. unwrap_or o []) at) ∙ quiet x)

  one_waits : (x : ℕ) → is_some (get node.queues x) ≡ true → is_nothing (ahead x) ≡ false
      → waits (node_behind ahead node) x ≡ true
  one_waits x way some = by (get node.queues x) refl way
    where
      by : (o : Option (List (List ℕ))) → get node.queues x ≡ o → is_some o ≡ true
          → waits (node_behind ahead node) x ≡ true
      by None at is = cc is
      by (Some lines) at is = ap (λ all. not (is_nothing all))
          (waiting_behind ahead node x lines at) ∙ some_front (ahead x) lines some

  -- no byte is on a pipe that the row has not
  not_there : (x : ℕ) → is_some (get row x) ≡ false → has_byte (pipe_in x row) ≡ false
  not_there x none = by (get row x) none
    where
      by : (o : Option LinkPipe) → is_some o ≡ false → has_byte (unwrap_or o new_pipe) ≡ false
      by None is = refl
      by (Some pipe) is = cc is

  no_byte : (x : ℕ) → (has_number x (keys row) ≡ true → has_byte (pipe_in x row) ≡ false)
      → has_byte (pipe_in x row) ≡ false
  no_byte x if_there = by (is_some (get row x)) refl
    where
      by : (b : Bool) → is_some (get row x) ≡ b → has_byte (pipe_in x row) ≡ false
      by true is = if_there (sym (contains_key-keys row x) ∙ is)
      by false is = not_there x is

  no_first_way : first_in row ≡ None → first_way (node_behind ahead node) ≡ None
  no_first_way none =
      none_found (waits (node_behind ahead node)) (keys (node_behind ahead node).queues) (λ x.
      none_waits x
      (only x (no_byte x (none_passes (λ to. has_byte (pipe_in to row)) (keys row) none x))))

  first_way_is : (to : ℕ) → first_in row ≡ Some to → is_some (get node.queues to) ≡ true
      → is_nothing (ahead to) ≡ false → first_way (node_behind ahead node) ≡ Some to
  first_way_is to found way some =
      first_found (waits (node_behind ahead node)) (keys (node_behind ahead node).queues) to
      (keys_rise (node_behind ahead node).queues) (record {
        there = sym (contains_key-keys (node_behind ahead node).queues to)
            ∙ ap is_some (get-each_way (λ x lines. ahead x ++ lines) node.queues to)
            ∙ still_way (get node.queues to) ∙ way;
        passes = one_waits to way some;
        before = λ x less there.
            none_waits x (only x (no_byte x ((is_first (λ y. has_byte (pipe_in y row)) (keys row) to
            (keys_rise row) found).before x less)));
      })
    where
      still_way : (o : Option (List (List ℕ)))
          → is_some (option_map (λ lines. ahead to ++ lines) o) ≡ is_some o
      still_way None = refl
      still_way (Some lines) = refl

-- ---- all of them

-- the node at a place has a way on which lines are ahead
pub record HasAhead (at : Option Node) (to : ℕ) (lines : List (List ℕ)) : Type 0 where
  pub way : is_some (option_and_then (λ (node : Node). get node.queues to) at) ≡ true
  pub some : is_nothing lines ≡ false

abbrev first_behind : ℕ → Ahead → List Node → Option Direction
first_behind place ahead nodes = first_among (place + 1) (nodes_behind (λ n. ahead (suc n)) nodes)

pub first_is : (place : ℕ) (pipes : Pipes) (nodes : List Node)
    (ahead : Ahead) (d : Direction) → length pipes ≡ length nodes
    → ((x to : ℕ) → has_byte (pipe_at pipes x to) ≡ false → ahead x to ≡ [])
    → ((x to : ℕ) → option_map_or (λ node. waiting node to) (slice_get nodes x) [] ≡ [])
    → ((x : ℕ) → d.from ≡ place + x → HasAhead (slice_get nodes x) d.to (ahead x d.to))
    → first_from place pipes ≡ Some d
    → first_among place (nodes_behind ahead nodes) ≡ Some (direction d.from d.to)
first_is place [] nodes ahead d rows only quiet has found = cc found
first_is place (row ∷ pipes) [] ahead d rows only quiet has found = absurd (omega (arith, rows))
first_is place (row ∷ pipes) (node ∷ nodes) ahead d rows only quiet has found =
    by (first_in row) refl
    (first_is (place + 1) pipes nodes (λ n. ahead (suc n)) d (omega (arith, rows))
    (λ x. only (suc x)) (λ x. quiet (suc x))
    (λ x at. has (suc x) (omega (arith, at))))
    found
  where
    by : (o : Option ℕ) → first_in row ≡ o → (first_from (place + 1) pipes ≡ Some d
        → first_behind place ahead nodes ≡ Some (direction d.from d.to)) → option_map_or
        (λ to. Some (record { from = place; to = to })) o (first_from (place + 1) pipes) ≡ Some d
        → option_map_or (λ to. Some (direction place to)) (first_way (node_behind (ahead 0) node))
        (first_behind place ahead nodes)
        ≡ Some (direction d.from d.to)
    by None none later is =
        ap (λ o. option_map_or (λ to. Some (direction place to)) o (first_behind place ahead nodes))
        (no_first_way row node (ahead 0) (only 0) (quiet 0) none)
        ∙ later is
    by (Some to) here later is =
        let from_is : d.from ≡ place = ap (λ o. (unwrap_or o d).from) (sym is) in
        let to_is : d.to ≡ to = ap (λ o. (unwrap_or o d).to) (sym is) in
        let ahead_here : HasAhead (Some node) to (ahead 0 to) = subst
        (λ n. HasAhead (Some node) n (ahead 0 n)) to_is (has 0 (omega (arith, from_is))) in
        ap (λ o. option_map_or (λ n. Some (direction place n)) o (first_behind place ahead nodes))
        (first_way_is row node (ahead 0) (only 0) (quiet 0) to here ahead_here.way ahead_here.some)
        ∙ (λ i. Some (direction (sym from_is i) (sym to_is i)))
