-- How many servers one end of a link tells the other of.
use Rattle.std.proofs.Common.{◌≡◌, ℕ, ◌+◌, ◌<◌, ◌≤◌, Bool, true, false, cond, not, ◌&&◌, ◌||◌, Some}
use Rattle.std.proofs.Common.{None, List, [], ◌∷◌, length, filter, count_by, refl, sym, ap, subst}
use Rattle.std.proofs.Common.{◌∙◌, arith, if◌then◌else◌}
use Rattle.std.proofs.lemmas.List.Edits.{length-insert}
use Rattle.std.proofs.lemmas.List.Sums.{count_by-le-length, length-filter, prefix_len-le-length}
use Rattle.std.specs.FinMap.{len}
use Rattle.std.specs.List.{fold, list_any, prefix_len}
use Rattle.std.specs.Option.{option_map}
use Rattle.irc_relay.specs.Distances.{EndsAreAmong, IsAmong}
use Rattle.irc_relay.specs.Lemmas.TellingNames.{Telling, alike, unlike, tell, same_when}
use Rattle.irc_relay.specs.Links.{Name, Link, joined, part, same, IsForest}
use Rattle.irc_relay.specs.Lemmas.LinkTakenOut.{tests_tell}
use Rattle.irc_routes.specs.Known.{Known, is_behind, is_told_before, others, put_among}
use Rattle.irc_routes.specs.Known.{servers_told}
use Rattle.irc_routes.specs.Lemmas.TableRows.{length-values}
use Rattle.irc_routes.specs.declared.server_row.ServerRow.{ServerRow}
use Rattle.irc_world.specs.Bounds.{part_size}
use Rattle.irc_follow.specs.AtRest.{AreRight}
use Rattle.irc_follow.specs.SideState.{ItemSetting, info_in}
use Rattle.irc_follow.specs.Tree.{shape, shape_in}
use Rattle.irc_follow.specs.Lemmas.SideAtRest.{joined_among}
use Rattle.irc_follow.specs.Lemmas.FewRows.{few_rows, AllAmong}
use Rattle.irc_network.specs.Network.{Network}
use Rattle.irc_items.specs.SetUp.{settings_of, IsSetUp}
use Rattle.irc_items.proofs.Common.Counting.{but, counted_but, part_counted}

put_one : (told : List ServerRow) (r : ServerRow) → length (put_among told r) ≡ length told + 1
put_one told r = length-insert told (prefix_len (λ other. is_told_before other r) told) r
    (prefix_len-le-length (λ other. is_told_before other r) told)

told_more : (rows told : List ServerRow)
    → length (fold put_among told rows) ≡ length told + length rows
told_more [] told = omega arith
told_more (r ∷ rows) told =
    let rest = told_more rows (put_among told r) in let one = put_one told r in omega arith

told_at_most : (known : Known) (link : ℕ) → length (servers_told known link) ≤ len known.rows
told_at_most known link =
    let told = told_more (filter (λ r. not (is_behind link r)) (others known)) [] in
    let kept = length-filter (λ r. not (is_behind link r)) (others known) in
    let few = count_by-le-length (λ r. not (is_behind link r)) (others known) in
    let all = length-values known.rows in
    omega arith

among_filtered : (p : Name → Bool) (names : List Name) (q : Name) → p q ≡ true → IsAmong names q
    → IsAmong (filter p names) q
among_filtered p [] q passes among = among
among_filtered p (x ∷ xs) q passes among = by (p x) refl (tell q x) (among_filtered p xs q passes)
  where
    later : same q x ≡ false → IsAmong xs q
    later z = sym (ap (λ b. b || list_any (same q) xs) z) ∙ among

    by : (b : Bool) → p x ≡ b → Telling q x → (IsAmong xs q → IsAmong (filter p xs) q)
        → IsAmong (cond b (x ∷ filter p xs) (filter p xs)) q
    by true e (alike z _) rest = ap (λ b. b || list_any (same q) (filter p xs)) z
    by true e (unlike z _) rest = ap (λ b. b || list_any (same q) (filter p xs)) z ∙ rest (later z)
    by false e (alike _ one) rest = absurd (let no = sym passes ∙ ap p one ∙ e in cc no)
    by false e (unlike z _) rest = rest (later z)

joined_rows : (s : ItemSetting) (links : List Link) (routes : Name → Known) (b : Name)
    → AreRight s links routes → IsForest links → EndsAreAmong s.names links → IsAmong s.names b
    → AllAmong (filter (but b (joined links b)) s.names) (routes b).rows
joined_rows s links routes b right forest ends among q r there =
    by (joined links q b) refl (same q b) refl (tell b q)
  where
    shown : Some (shape r) ≡ (if joined links q b && not (same q b)
        then Some (shape_in s.names (info_in s.settings) links b q) else None)
    shown = sym (ap (option_map shape) there) ∙ right.rows b q among

    by : (j : Bool) → joined links q b ≡ j → (k : Bool) → same q b ≡ k → Telling b q
        → IsAmong (filter (but b (joined links b)) s.names) q
    by false e k f _ = absurd (let no = shown
        ∙ ap (λ j. if j && not (same q b)
        then Some (shape_in s.names (info_in s.settings) links b q) else None) e in cc no)
    by true e true f _ = absurd (let no = shown ∙ ap (λ k. if joined links q b && not k
        then Some (shape_in s.names (info_in s.settings) links b q) else None) f
        ∙ ap (λ j. if j && false then Some (shape_in s.names (info_in s.settings) links b q)
        else None) e in cc no)
    by true e false f (alike _ one) = absurd (let no = sym (same_when q b (sym one)) ∙ f in cc no)
    by true e false f (unlike z _) = among_filtered (but b (joined links b)) s.names q
        (ap (λ k. joined links b q && not k) z ∙ ap (λ j. j && true)
        ((tests_tell links b q q).1.1 (sym ((tests_tell links q b b).1.0 e))))
        (joined_among s.names links q b forest ends among ((tests_tell links q b b).1.0 e))

pub told_counted : (net : Network) → IsSetUp net → (s : ItemSetting) → s.names ≡ net.names
    → (links : List Link) (routes : Name → Known) (b : Name) (link : ℕ)
    → AreRight s links routes → IsForest links → EndsAreAmong s.names links → IsAmong s.names b
    → length (servers_told (routes b) link) < part_size (settings_of net) links b
told_counted net set_up s names links routes b link right forest ends among =
    let told = told_at_most (routes b) link in
    let rows = few_rows (filter (but b (joined links b)) s.names) (routes b).rows
    (joined_rows s links routes b right forest ends among) in
    let kept = length-filter (but b (joined links b)) s.names in
    let size = part_counted net set_up links b
    ∙ ap (λ names. count_by (joined links b) names) (sym names) in
    let split =
    counted_but s.names (joined links b) b (same_when (part links b) (part links b) refl) in
    let once = ap (λ names. count_by (same b) names) names
    ∙ set_up.once b (subst (λ names. IsAmong names b) names among) in
    omega arith
