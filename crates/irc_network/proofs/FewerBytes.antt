-- By a turn fewer bytes are on their way.
use Rattle.std.proofs.Common.{◌≡◌, ℕ, zero, suc, ◌+◌, ◌-◌, ◌<◌, ◌==◌, Bool, true, false, cond, not}
use Rattle.std.proofs.Common.{T, Option, Some, None, List, [], ◌∷◌, ◌++◌, drop, length, refl, sym}
use Rattle.std.proofs.Common.{◌∙◌, ap, subst, arith, unwrap_or, if◌then◌else◌}
use Rattle.std.proofs.lemmas.List.{length-drop}
use Rattle.std.specs.Cmp.{eq_by_cmp_equiv, nat_cmp_total}
use Rattle.std.specs.FinMap.{FinMap, entries, entries-from_sorted, entries-insert, entries_sorted}
use Rattle.std.specs.FinMap.{find, from_sorted, get, get-entries, get-from_sorted, get-remove}
use Rattle.std.specs.FinMap.{insert, is_sorted, keys, nat_cmp-IsAntisymmetric, remove, same_map}
use Rattle.std.specs.FinMap.Entries.{find-where_key, is_sorted-where_key, put}
use Rattle.std.specs.List.{find as found_by, slice_get, slice_set}
use Rattle.std.specs.Option.{option_map_or}
use Rattle.std.specs.Ordering.{nat_cmp}
use Rattle.irc_names.specs.Lemmas.PlainFacts.{is_true}
use Rattle.irc_tables.specs.Lemmas.OrderedEntries.{others, others-between, put-there, sorted-above}
use Rattle.irc_tables.specs.Lemmas.OrderedEntries.{sorted-below}
use Rattle.irc_stage.specs.Lemmas.Numbers.{one_number, same_number}
use Rattle.irc_line.specs.Bytes.{line_feed}
use Rattle.irc_pipes.specs.Pipes.{Direction, LinkPipe, Pipes, advanced, first_direction, first_from}
use Rattle.irc_pipes.specs.Pipes.{first_in, has_byte, is_none, is_still, new_pipe, put_in}
use Rattle.irc_pipes.specs.Pipes.{through_line_feed, pipe_at, pipe_in, with_pipe}
use Rattle.irc_network.specs.Loops.Turning.{bytes_of_entries, bytes_on_way}

abbrev PipeRow : Type 0
PipeRow = FinMap nat_cmp LinkPipe

-- ---- in a row

bytes_of-append : (front back : List (ℕ × LinkPipe))
    → bytes_of_entries (front ++ back) ≡ bytes_of_entries front + bytes_of_entries back
bytes_of-append [] back = omega arith
bytes_of-append (entry ∷ front) back = let more = bytes_of-append front back in omega (arith, more)

-- where a pipe is among the entries
record IsListed (es : List (ℕ × LinkPipe)) (to : ℕ) (pipe : LinkPipe) : Type 0 where
  front : List (ℕ × LinkPipe)
  back : List (ℕ × LinkPipe)
  is : es ≡ front ++ (to, pipe) ∷ back

is_listed : (es : List (ℕ × LinkPipe)) (to : ℕ) (pipe : LinkPipe) → find nat_cmp to es ≡ Some pipe
    → IsListed es to pipe
is_listed [] to pipe is = cc is
is_listed (e ∷ es) to pipe is = by (same_number to e.0) refl (is_listed es to pipe) is
  where
    by : (b : Bool) → same_number to e.0 ≡ b
        → (find nat_cmp to es ≡ Some pipe → IsListed es to pipe)
        → cond b (Some e.1) (find nat_cmp to es) ≡ Some pipe → IsListed (e ∷ es) to pipe
    by true one later found = record {
      front = [];
      back = es;
      is = ap (λ n. (n, e.1) ∷ es) (sym (one_number to e.0 one))
          ∙ ap (λ o. (to, unwrap_or o e.1) ∷ es) found;
    }
    by false two later found =
        let rest = later found in
        record { front = e ∷ rest.front; back = rest.back; is = ap (λ more. e ∷ more) rest.is }

entries-remove : (row : PipeRow) (to : ℕ)
    → entries (remove row to) ≡ others nat_cmp_total to (entries row)
entries-remove row to =
    ap entries (same_map nat_cmp_total nat_cmp-IsAntisymmetric (remove row to)
    (from_sorted left) same) ∙ entries-from_sorted nat_cmp left rise
  where
    left : List (ℕ × LinkPipe)
    left = others nat_cmp_total to (entries row)

    rise : T (is_sorted nat_cmp left)
    rise =
        is_sorted-where_key nat_cmp (λ x. not (same_number to x)) (entries row) (entries_sorted row)

    turned_round : (b c : Bool) (o : Option LinkPipe) → b ≡ c → cond b None o ≡ cond (not c) o None
    turned_round true c o same = ap (λ d. cond (not d) o None) same
    turned_round false c o same = ap (λ d. cond (not d) o None) same

    same : (q : ℕ) → get (remove row to) q ≡ get (from_sorted {R = nat_cmp} left) q
    same q =
        get-remove nat_cmp_total row to q ∙ ap (cond (same_number q to) None) (get-entries row q)
        ∙ turned_round (same_number q to) (same_number to q) (find nat_cmp q (entries row))
        ((eq_by_cmp_equiv nat_cmp_total).symm q to)
        ∙ sym (find-where_key nat_cmp (λ x. not (same_number to x)) q
        (λ x one. ap (λ n. not (same_number to n)) (sym (nat_cmp-IsAntisymmetric q x one)))
        (entries row))
        ∙ sym (get-from_sorted nat_cmp left q rise)

less_put : (front before after back all now : ℕ) → all ≡ front + (before + back)
    → now ≡ front + (after + back) → after < before → now < all
less_put front before after back all now all_is now_is less = omega arith

less_gone : (front before back all now : ℕ) → all ≡ front + (before + back) → now ≡ front + back
    → 0 < before → now < all
less_gone front before back all now all_is now_is some = omega arith

some_before : (after before : ℕ) → after < before → 0 < before
some_before after before less = omega arith

row_fewer : (row : PipeRow) (to : ℕ) (pipe after : LinkPipe)
    → get row to ≡ Some pipe → length after.bytes < length pipe.bytes
    → bytes_of_entries (entries (put_in to after row)) < bytes_of_entries (entries row)
row_fewer row to pipe after is less = by (is_still after)
  where
    listed : IsListed (entries row) to pipe
    listed = is_listed (entries row) to pipe (sym (get-entries row to) ∙ is)

    sorted : is_sorted nat_cmp (listed.front ++ (to, pipe) ∷ listed.back) ≡ true
    sorted = ap (is_sorted nat_cmp) (sym listed.is) ∙ is_true _ (entries_sorted row)

    all_is : bytes_of_entries (entries row) ≡ bytes_of_entries listed.front
        + (length pipe.bytes + bytes_of_entries listed.back)
    all_is = ap bytes_of_entries listed.is ∙ bytes_of-append listed.front ((to, pipe) ∷ listed.back)

    by : (b : Bool) → bytes_of_entries (entries (if b then remove row to else insert row to after))
        < bytes_of_entries (entries row)
    by true =
        less_gone (bytes_of_entries listed.front) (length pipe.bytes) (bytes_of_entries listed.back)
        (bytes_of_entries (entries row))
        (bytes_of_entries (entries (remove row to))) all_is
        (ap bytes_of_entries
        (entries-remove row to ∙ ap (others nat_cmp_total to) listed.is
        ∙ others-between nat_cmp_total to pipe listed.front listed.back
        (sorted-below nat_cmp_total to pipe listed.front listed.back sorted)
        (sorted-above nat_cmp_total to pipe listed.front listed.back sorted))
        ∙ bytes_of-append listed.front listed.back)
        (some_before (length after.bytes) (length pipe.bytes) less)
    by false =
        less_put (bytes_of_entries listed.front) (length pipe.bytes) (length after.bytes)
        (bytes_of_entries listed.back) (bytes_of_entries (entries row))
        (bytes_of_entries (entries (insert row to after))) all_is
        (ap bytes_of_entries
        (entries-insert nat_cmp_total row to after ∙ ap (put nat_cmp to after) listed.is
        ∙ put-there nat_cmp_total to after pipe listed.front listed.back
        (sorted-below nat_cmp_total to pipe listed.front listed.back sorted))
        ∙ bytes_of-append listed.front ((to, after) ∷ listed.back))
        less

-- ---- among all

less_front : (before after rest : ℕ) → after < before → after + rest < before + rest
less_front before after rest less = omega arith

less_rest : (front before after : ℕ) → after < before → front + after < front + before
less_rest front before after less = omega arith

rows_fewer : (pipes : Pipes) (from : ℕ) (row after : PipeRow) → slice_get pipes from ≡ Some row
    → bytes_of_entries (entries after) < bytes_of_entries (entries row)
    → bytes_on_way (slice_set pipes from after) < bytes_on_way pipes
rows_fewer [] from row after at less = cc at
rows_fewer (first ∷ pipes) zero row after at less =
    less_front (bytes_of_entries (entries first)) (bytes_of_entries (entries after))
    (bytes_on_way pipes)
    (subst (λ (r : PipeRow). bytes_of_entries (entries after) < bytes_of_entries (entries r))
    (sym (ap (λ o. unwrap_or o row) at)) less)
rows_fewer (first ∷ pipes) (suc from) row after at less =
    less_rest (bytes_of_entries (entries first)) (bytes_on_way pipes)
    (bytes_on_way (slice_set pipes from after)) (rows_fewer pipes from row after at less)

-- ---- the first direction in which a byte is on its way

found_passes : (test : ℕ → Bool) (numbers : List ℕ) (number : ℕ)
    → found_by test numbers ≡ Some number → test number ≡ true
found_passes test [] number is = cc is
found_passes test (n ∷ numbers) number is = by (test n) refl (found_passes test numbers number) is
  where
    by : (b : Bool) → test n ≡ b → (found_by test numbers ≡ Some number → test number ≡ true)
        → cond b (Some n) (found_by test numbers) ≡ Some number → test number ≡ true
    by true passes later found = ap (λ o. test (unwrap_or o n)) (sym found) ∙ passes
    by false fails later found = later found

-- a row with a byte on its way
record HasByteIn (pipes : Pipes) (place : ℕ) (way : Direction) : Type 0 where
  earlier : ℕ
  place_is : way.from ≡ place + earlier
  row : PipeRow
  is_row : slice_get pipes earlier ≡ Some row
  moves : has_byte (pipe_in way.to row) ≡ true

abbrev way_to : ℕ → ℕ → Direction
way_to place to = record { from = place; to = to }

first_has_byte : (pipes : Pipes) (place : ℕ) (way : Direction) → first_from place pipes ≡ Some way
    → HasByteIn pipes place way
first_has_byte [] place way is = cc is
first_has_byte (row ∷ pipes) place way is =
    by (first_in row) refl (first_has_byte pipes (place + 1) way) is
  where
    here : (to : ℕ) → first_in row ≡ Some to → HasByteIn (row ∷ pipes) place (way_to place to)
    here to found = record {
      earlier = 0;
      place_is = same place;
      row = row;
      is_row = refl;
      moves = found_passes (λ t. has_byte (pipe_in t row)) (keys row) to found;
    }
      where
        same : (n : ℕ) → n ≡ n + 0
        same n = omega arith

    later_place : (from earlier : ℕ) → from ≡ place + 1 + earlier → from ≡ place + suc earlier
    later_place from earlier is = omega arith

    by : (o : Option ℕ) → first_in row ≡ o
        → (first_from (place + 1) pipes ≡ Some way → HasByteIn pipes (place + 1) way)
        → option_map_or (λ to. Some (way_to place to)) o (first_from (place + 1) pipes) ≡ Some way
        → HasByteIn (row ∷ pipes) place way
    by (Some to) found later here_is = subst (HasByteIn (row ∷ pipes) place)
        (ap (λ o. unwrap_or o (way_to place to)) here_is) (here to found)
    by None none later there =
        let rest = later there in
        record {
          earlier = suc rest.earlier;
          place_is = later_place way.from rest.earlier rest.place_is;
          row = rest.row;
          is_row = rest.is_row;
          moves = rest.moves;
        }

-- ---- what comes by a turn

rest_fewer : (bytes : List ℕ) → not (is_none bytes) ≡ true
    → length (drop (through_line_feed bytes) bytes) < length bytes
rest_fewer [] some = cc some
rest_fewer (byte ∷ bytes) some = by (byte == line_feed)
  where
    less : (a b n : ℕ) → a ≡ b - n → a < suc b
    less a b n is = omega arith

    by : (b : Bool) → length (drop (if b then 1 else suc (through_line_feed bytes)) (byte ∷ bytes))
        < length (byte ∷ bytes)
    by true = less (length bytes) (length bytes) 0 (all (length bytes))
      where
        all : (n : ℕ) → n ≡ n - 0
        all n = omega arith
    by false =
        less (length (drop (through_line_feed bytes) bytes)) (length bytes)
        (through_line_feed bytes) (length-drop (through_line_feed bytes) bytes)

-- the pipes once the bytes through the next LF have come in a direction
abbrev pub turned : Direction → Pipes → Pipes
turned way pipes = with_pipe way.from way.to (advanced (through_line_feed
    (pipe_at pipes way.from way.to).bytes) (pipe_at pipes way.from way.to)) pipes

there : (row : PipeRow) (to : ℕ) → has_byte (pipe_in to row) ≡ true
    → get row to ≡ Some (pipe_in to row)
there row to moves = by (get row to) moves
  where
    by : (o : Option LinkPipe) → has_byte (unwrap_or o new_pipe) ≡ true
        → o ≡ Some (unwrap_or o new_pipe)
    by None none = cc none
    by (Some pipe) some = refl

pub fewer_bytes : (pipes : Pipes) (way : Direction) → first_direction pipes ≡ Some way
    → bytes_on_way (turned way pipes) < bytes_on_way pipes
fewer_bytes pipes way is = subst (λ ws. bytes_on_way ws < bytes_on_way pipes) (sym turned_is) less
  where
    found : HasByteIn pipes 0 way
    found = first_has_byte pipes 0 way is

    from_is : (from earlier : ℕ) → from ≡ 0 + earlier → from ≡ earlier
    from_is from earlier same = omega (arith, same)

    at : slice_get pipes way.from ≡ Some found.row
    at = ap (slice_get pipes) (from_is way.from found.earlier found.place_is) ∙ found.is_row

    pipe : LinkPipe
    pipe = pipe_in way.to found.row

    after : LinkPipe
    after = advanced (through_line_feed pipe.bytes) pipe

    turned_is : turned way pipes ≡ slice_set pipes way.from (put_in way.to after found.row)
    turned_is = ap
        (λ o. option_map_or (λ (row : PipeRow). slice_set pipes way.from
        (put_in way.to
        (advanced (through_line_feed (option_map_or (pipe_in way.to) o new_pipe).bytes)
        (option_map_or (pipe_in way.to) o new_pipe)) row)) o pipes)
        at

    less : bytes_on_way (slice_set pipes way.from (put_in way.to after found.row))
        < bytes_on_way pipes
    less = rows_fewer pipes way.from found.row (put_in way.to after found.row) at
        (row_fewer found.row way.to pipe after (there found.row way.to found.moves)
        (rest_fewer pipe.bytes found.moves))
