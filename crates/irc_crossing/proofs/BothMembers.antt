-- Two changes, each done first at one end: members of channels.
use Rattle.std.proofs.Common.{◌≡◌, ℕ, Bool, true, false, ◌||◌, ◌&&◌, Option, Some, None, List, refl}
use Rattle.std.proofs.Common.{sym}
use Rattle.std.proofs.Common.{◌∙◌, ap, if◌then◌else◌, rules, true≢false}
use Rattle.std.specs.Option.{option_and_then, option_map}
use Rattle.std.proofs.Math.Bool.{or_comm}
use Rattle.std.specs.Cmp.{second_so, first_so}
use Rattle.irc_names.specs.Fold.{same}
use Rattle.irc_crossing.specs.declared.change.Change.{Change}
use Rattle.irc_crossing.specs.declared.change.Change.TheVariants.{Come, Rename, Go, Out, Join, Set}
use Rattle.irc_crossing.specs.Changes.{member_now}
use Rattle.irc_crossing.specs.Changes.{are_met, behind, crossed, is_gone, join_behind}
use Rattle.irc_crossing.specs.Changes.{gone_of, nick_now, setting_behind, taken_by}
use Rattle.irc_crossing.specs.declared.setting.Setting.{Setting}
use Rattle.irc_crossing.specs.Laws.{AreNames, BothEndsAgree, IsPossible, MayRename}
use Rattle.irc_crossing.specs.Laws.{member_after, member_behind_both, nick_after, nick_behind_both}
use Rattle.irc_crossing.proofs.BothEnds.{IsGoer, IsMover, both_nicks_agree, first_same}
use Rattle.irc_crossing.proofs.BothEnds.{free_of, gone_alike, goer, not_turned}
use Rattle.irc_crossing.proofs.BothEnds.{same_self}
use Rattle.irc_crossing.proofs.BothEnds.{turned}

-- ---- changes that take nobody out of a channel are of all who are there

module _ (channel nick : List ℕ) where
  abbrev IsOfAll : Option Change → Type 0
  IsOfAll change = member_after change channel nick ≡ nick_after change nick

  either : (b : Bool) (one other : Option Change) → IsOfAll one → IsOfAll other
      → IsOfAll (if b then one else other)
  either true one other first second = first
  either false one other first second = second

  renamed_of_all : (new : List ℕ) (now : Option (List ℕ))
      → IsOfAll (option_map (λ it. Rename it new) now)
  renamed_of_all new None = refl
  renamed_of_all new (Some now) = refl

  gone_of_all : (one other : Option (List ℕ)) → IsOfAll (gone_of one other)
  gone_of_all None None = refl
  gone_of_all None (Some other) = refl
  gone_of_all (Some one) other = refl

  come_of_all : (a : List ℕ) (ours : Change) → IsOfAll (crossed (Come a) ours)
  come_of_all a ours = either (are_met (Some a) (taken_by ours)) (Some (Go a None)) (Some (Come a))
      refl refl

  rename_of_all : (o w : List ℕ) (ours : Change) → IsOfAll (crossed (Rename o w) ours)
  rename_of_all o w ours = either (are_met (taken_by (Rename o w)) (taken_by ours))
      (Some (Go w (Some o))) (behind (Rename o w) ours) refl (renamed_of_all w (nick_now ours o))

  go_of_all : (x : List ℕ) (y : Option (List ℕ)) (ours : Change) → IsOfAll (crossed (Go x y) ours)
  go_of_all x y ours = gone_of_all (nick_now ours x) (option_and_then (nick_now ours) y)

of_all_then : (change : Option Change) (channel : List ℕ)
    → ((nick : List ℕ) → member_after change channel nick ≡ nick_after change nick)
    → (nick : Option (List ℕ)) → option_and_then (member_after change channel) nick
    ≡ option_and_then (nick_after change) nick
of_all_then change channel of_all None = refl
of_all_then change channel of_all (Some nick) = of_all nick

-- ---- what is set leaves members as they are

set_keeps_members : (channel nick : List ℕ) (setting : Option Setting)
    → member_after (option_map Set setting) channel nick ≡ Some nick
set_keeps_members channel nick None = refl
set_keeps_members channel nick (Some setting) = refl

behind_set_in : (ours : Change) (setting : Setting) (channel nick : List ℕ)
    → member_now ours channel nick ≡ member_after (crossed ours (Set setting)) channel nick
behind_set_in (Come other) setting channel nick = refl
behind_set_in (Rename old new) setting channel nick = by (same old new) refl
  where
    by : (b : Bool) → same old new ≡ b → member_now (Rename old new) channel nick
        ≡ member_after (crossed (Rename old new) (Set setting)) channel nick
    by true is = search (rules, is)
    by false is = search (rules, is)
behind_set_in (Go one None) setting channel nick = refl
behind_set_in (Go one (Some other)) setting channel nick = refl
behind_set_in (Out other from) setting channel nick = refl
behind_set_in (Join at begins) setting channel nick = refl
behind_set_in (Set other) setting channel nick =
    sym (set_keeps_members channel nick (setting_behind (Set setting) other))

set_members_agree : (ours : Change) (setting : Setting) (channel nick : List ℕ)
    → member_behind_both (Set setting) ours channel nick
    ≡ member_behind_both ours (Set setting) channel nick
set_members_agree ours setting channel nick =
    all_stay (member_now ours channel nick) ∙ behind_set_in ours setting channel nick
  where
    all_stay : (it : Option (List ℕ))
        → option_and_then (member_after (crossed (Set setting) ours) channel) it ≡ it
    all_stay None = refl
    all_stay (Some it) = set_keeps_members channel it (setting_behind ours setting)

-- ---- and so does who comes to a channel

join_keeps_members : (at : List ℕ) (begins : Bool) (ours : Change) (channel nick : List ℕ)
    → member_after (Some (join_behind at begins ours)) channel nick ≡ Some nick
join_keeps_members at begins (Come other) channel nick = refl
join_keeps_members at begins (Rename old new) channel nick = refl
join_keeps_members at begins (Go one other) channel nick = refl
join_keeps_members at begins (Out other from) channel nick = refl
join_keeps_members at begins (Set setting) channel nick = refl
join_keeps_members at begins (Join from other) channel nick = refl

behind_join_in : (ours : Change) (at : List ℕ) (begins : Bool) (channel nick : List ℕ)
    → member_now ours channel nick ≡ member_after (crossed ours (Join at begins)) channel nick
behind_join_in (Come other) at begins channel nick = refl
behind_join_in (Rename old new) at begins channel nick = by (same old new) refl
  where
    by : (b : Bool) → same old new ≡ b → member_now (Rename old new) channel nick
        ≡ member_after (crossed (Rename old new) (Join at begins)) channel nick
    by true is = search (rules, is)
    by false is = search (rules, is)
behind_join_in (Go one None) at begins channel nick = refl
behind_join_in (Go one (Some other)) at begins channel nick = refl
behind_join_in (Out other from) at begins channel nick = refl
behind_join_in (Join from other) at begins channel nick =
    sym (join_keeps_members from other (Join at begins) channel nick)
behind_join_in (Set setting) at begins channel nick =
    sym (set_keeps_members channel nick (setting_behind (Join at begins) setting))

join_members_agree : (ours : Change) (at : List ℕ) (begins : Bool) (channel nick : List ℕ)
    → member_behind_both (Join at begins) ours channel nick
    ≡ member_behind_both ours (Join at begins) channel nick
join_members_agree ours at begins channel nick =
    all_stay (member_now ours channel nick) ∙ behind_join_in ours at begins channel nick
  where
    all_stay : (it : Option (List ℕ))
        → option_and_then (member_after (crossed (Join at begins) ours) channel) it ≡ it
    all_stay None = refl
    all_stay (Some it) = join_keeps_members at begins ours channel it

-- ---- one who is out of a channel, and another change

out_come : (u c a ch n : List ℕ) (un cc : Bool) → same u n ≡ un → same c ch ≡ cc
    → same a n ≡ false → same a u ≡ false
    → member_behind_both (Out u c) (Come a) ch n ≡ member_behind_both (Come a) (Out u c) ch n
out_come u c a ch n true true un at an au = search (rules, un, at, an, au)
out_come u c a ch n true false un at an au = search (rules, un, at, an, au)
out_come u c a ch n false true un at an au = search (rules, un, at, an, au)
out_come u c a ch n false false un at an au = search (rules, un, at, an, au)

out_spelled : (u c o w ch n : List ℕ) (un cc : Bool) → same u n ≡ un → same c ch ≡ cc
    → same o w ≡ true → member_behind_both (Out u c) (Rename o w) ch n
    ≡ member_behind_both (Rename o w) (Out u c) ch n
out_spelled u c o w ch n true true un at ow = search (rules, un, at, ow)
out_spelled u c o w ch n true false un at ow = search (rules, un, at, ow)
out_spelled u c o w ch n false true un at ow = search (rules, un, at, ow)
out_spelled u c o w ch n false false un at ow = search (rules, un, at, ow)

out_rename : (u c o w ch n : List ℕ) (on first at cc : Bool) → IsMover o w n on
    → IsGoer o w n u first at → same c ch ≡ cc → member_behind_both (Out u c) (Rename o w) ch n
    ≡ member_behind_both (Rename o w) (Out u c) ch n
out_rename u c o w ch n true true true true m g at =
    search (rules, m.ow, m.wn, m.ww, m.here, g.ox, g.xo, g.xn, g.wx, g.xw, at)
out_rename u c o w ch n true true true false m g at =
    search (rules, m.ow, m.wn, m.ww, m.here, g.ox, g.xo, g.xn, g.wx, g.xw, at)
out_rename u c o w ch n true true false true m g at =
    absurd (true≢false (sym g.ox ∙ first_same o n u m.here ∙ not_turned u n g.xn))
out_rename u c o w ch n true true false false m g at =
    absurd (true≢false (sym g.ox ∙ first_same o n u m.here ∙ not_turned u n g.xn))
out_rename u c o w ch n true false true true m g at =
    absurd (true≢false (sym (turned u n g.xn) ∙ sym (first_same o n u m.here) ∙ g.ox))
out_rename u c o w ch n true false true false m g at =
    absurd (true≢false (sym (turned u n g.xn) ∙ sym (first_same o n u m.here) ∙ g.ox))
out_rename u c o w ch n true false false true m g at =
    search (rules, m.ow, m.wn, m.ww, m.here, g.ox, g.xo, g.xn, g.wx, g.xw, at)
out_rename u c o w ch n true false false false m g at =
    search (rules, m.ow, m.wn, m.ww, m.here, g.ox, g.xo, g.xn, g.wx, g.xw, at)
out_rename u c o w ch n false true true true m g at =
    absurd (true≢false (sym g.xn ∙ sym (first_same o u n g.ox) ∙ m.here))
out_rename u c o w ch n false true true false m g at =
    absurd (true≢false (sym g.xn ∙ sym (first_same o u n g.ox) ∙ m.here))
out_rename u c o w ch n false true false true m g at =
    search (rules, m.ow, m.wn, m.ww, m.here, g.ox, g.xo, g.xn, g.wx, g.xw, at)
out_rename u c o w ch n false true false false m g at =
    search (rules, m.ow, m.wn, m.ww, m.here, g.ox, g.xo, g.xn, g.wx, g.xw, at)
out_rename u c o w ch n false false true true m g at =
    search (rules, m.ow, m.wn, m.ww, m.here, g.ox, g.xo, g.xn, g.wx, g.xw, at)
out_rename u c o w ch n false false true false m g at =
    search (rules, m.ow, m.wn, m.ww, m.here, g.ox, g.xo, g.xn, g.wx, g.xw, at)
out_rename u c o w ch n false false false true m g at =
    search (rules, m.ow, m.wn, m.ww, m.here, g.ox, g.xo, g.xn, g.wx, g.xw, at)
out_rename u c o w ch n false false false false m g at =
    search (rules, m.ow, m.wn, m.ww, m.here, g.ox, g.xo, g.xn, g.wx, g.xw, at)

who_goes_stays : (u c x : List ℕ) (y : Option (List ℕ))
    → crossed (Go x y) (Out u c) ≡ Some (Go x y)
who_goes_stays u c x None = refl
who_goes_stays u c x (Some y) = refl

module _ (u c x : List ℕ) (y : Option (List ℕ)) (ch n : List ℕ) where
  abbrev out_first : (left : Option Change) → Option (List ℕ)
  out_first left = option_and_then (member_after left ch) (member_now (Out u c) ch n)

  out_go : (gone first un within : Bool) → is_gone x y n ≡ gone → is_gone x y u ≡ first
      → same u n ≡ un → same c ch ≡ within
      → member_behind_both (Out u c) (Go x y) ch n ≡ out_first (Some (Go x y))
  out_go true first true true at and_at is in_it = search (rules, at, is, in_it)
  out_go true first true false at and_at is in_it = search (rules, at, is, in_it)
  out_go true first false within at and_at is in_it = search (rules, at, is)
  out_go false true true within at and_at is in_it =
      absurd (true≢false (sym and_at ∙ gone_alike x y u n is ∙ at))
  out_go false true false within at and_at is in_it = search (rules, at, and_at, is)
  out_go false false true true at and_at is in_it = search (rules, at, and_at, is, in_it)
  out_go false false true false at and_at is in_it = search (rules, at, and_at, is, in_it)
  out_go false false false within at and_at is in_it = search (rules, at, and_at, is)

-- ---- two who are out of a channel

out_side : (u c v d ch n : List ℕ) (ours theirs both : Bool) → (same v n && same d ch) ≡ ours
    → (same u n && same c ch) ≡ theirs → (same v u && same d c) ≡ both
    → (theirs ≡ true → both ≡ true → ours ≡ true)
    → member_behind_both (Out u c) (Out v d) ch n ≡ (if ours || theirs then None else Some n)
out_side u c v d ch n true theirs both us it at so = search (rules, us)
out_side u c v d ch n false true true us it at so = absurd (true≢false (sym (so refl refl)))
out_side u c v d ch n false true false us it at so = search (rules, us, it, at)
out_side u c v d ch n false false true us it at so = search (rules, us, it, at)
out_side u c v d ch n false false false us it at so = search (rules, us, it, at)

is_it : (u c v d ch n : List ℕ) → (same u n && same c ch) ≡ true → (same v u && same d c) ≡ true
    → (same v n && same d ch) ≡ true
is_it u c v d ch n it one =
    λ i. (first_same v u n (first_so (same v u) (same d c) one)
    ∙ first_so (same u n) (same c ch) it) i
    && (first_same d c ch (second_so (same v u) (same d c) one)
    ∙ second_so (same u n) (same c ch) it) i

out_out : (u c v d ch n : List ℕ)
    → member_behind_both (Out u c) (Out v d) ch n ≡ member_behind_both (Out v d) (Out u c) ch n
out_out u c v d ch n =
    let theirs = same u n && same c ch in
    let ours = same v n && same d ch in
    out_side u c v d ch n ours theirs (same v u && same d c) refl refl refl (is_it u c v d ch n)
    ∙ ap (λ b. if b then None else Some n) (or_comm ours theirs)
    ∙ sym (out_side v d u c ch n theirs ours (same u v && same c d) refl refl refl
    (is_it v d u c ch n))

-- ---- two changes

-- that take nobody out of a channel
named : (theirs ours : Change) (ch n : List ℕ) → ((it : List ℕ)
    → IsOfAll ch it (crossed theirs ours)) → ((it : List ℕ) → IsOfAll ch it (crossed ours theirs))
    → nick_behind_both theirs ours n ≡ nick_behind_both ours theirs n
    → option_and_then (member_after (crossed theirs ours) ch) (nick_now ours n)
    ≡ option_and_then (member_after (crossed ours theirs) ch) (nick_now theirs n)
named theirs ours ch n one other agree =
    of_all_then (crossed theirs ours) ch one (nick_now ours n) ∙ agree
    ∙ sym (of_all_then (crossed ours theirs) ch other (nick_now theirs n))

module _ (here : List ℕ → Bool) (names : AreNames here) (n : List ℕ) (is : here n ≡ true)
    (ch : List ℕ) where
  abbrev Agree : (theirs ours : Change) → Type 0
  Agree theirs ours = member_behind_both theirs ours ch n ≡ member_behind_both ours theirs ch n

  out_come_agree : (u c a : List ℕ) → here u ≡ true → here a ≡ false → Agree (Out u c) (Come a)
  out_come_agree u c a there free =
      out_come u c a ch n (same u n) (same c ch) refl refl (free_of here names a n free is)
      (free_of here names a u free there)

  out_rename_agree : (u c o w : List ℕ) → here u ≡ true → MayRename here o w
      → Agree (Out u c) (Rename o w)
  out_rename_agree u c o w there may = by (same o w) refl
    where
      by : (b : Bool) → same o w ≡ b → Agree (Out u c) (Rename o w)
      by true ow = out_spelled u c o w ch n (same u n) (same c ch) refl refl ow
      by false ow = out_rename u c o w ch n (same o n) (same o u) (same u n) (same c ch)
          (record {
            ow = ow;
            wn = free_of here names w n (may.free ow) is;
            ww = same_self w;
            here = refl;
          })
          (goer here names n is o w u (may.free ow) there) refl

  out_go_agree : (u c x : List ℕ) (y : Option (List ℕ)) → Agree (Out u c) (Go x y)
  out_go_agree u c x y = out_go u c x y ch n (is_gone x y n) (is_gone x y u) (same u n) (same c ch)
      refl refl refl refl ∙ ap (out_first u c x y ch n) (sym (who_goes_stays u c x y))

  members_agree : (theirs ours : Change) → IsPossible here theirs → IsPossible here ours
      → nick_behind_both theirs ours n ≡ nick_behind_both ours theirs n → Agree theirs ours
  members_agree (Come a) (Come b) may other nicks =
      named (Come a) (Come b) ch n (λ it. come_of_all ch it a (Come b))
      (λ it. come_of_all ch it b (Come a)) nicks
  members_agree (Come a) (Rename p v) may other nicks =
      named (Come a) (Rename p v) ch n (λ it. come_of_all ch it a (Rename p v))
      (λ it. rename_of_all ch it p v (Come a)) nicks
  members_agree (Come a) (Go p q) may other nicks =
      named (Come a) (Go p q) ch n (λ it. come_of_all ch it a (Go p q))
      (λ it. go_of_all ch it p q (Come a)) nicks
  members_agree (Rename o w) (Come b) may other nicks =
      named (Rename o w) (Come b) ch n (λ it. rename_of_all ch it o w (Come b))
      (λ it. come_of_all ch it b (Rename o w)) nicks
  members_agree (Rename o w) (Rename p v) may other nicks =
      named (Rename o w) (Rename p v) ch n (λ it. rename_of_all ch it o w (Rename p v))
      (λ it. rename_of_all ch it p v (Rename o w)) nicks
  members_agree (Rename o w) (Go p q) may other nicks =
      named (Rename o w) (Go p q) ch n (λ it. rename_of_all ch it o w (Go p q))
      (λ it. go_of_all ch it p q (Rename o w)) nicks
  members_agree (Go x y) (Come b) may other nicks =
      named (Go x y) (Come b) ch n (λ it. go_of_all ch it x y (Come b))
      (λ it. come_of_all ch it b (Go x y)) nicks
  members_agree (Go x y) (Rename p v) may other nicks =
      named (Go x y) (Rename p v) ch n (λ it. go_of_all ch it x y (Rename p v))
      (λ it. rename_of_all ch it p v (Go x y)) nicks
  members_agree (Go x y) (Go p q) may other nicks =
      named (Go x y) (Go p q) ch n (λ it. go_of_all ch it x y (Go p q))
      (λ it. go_of_all ch it p q (Go x y)) nicks
  members_agree (Out u c) (Come a) may other nicks = out_come_agree u c a may other
  members_agree (Out u c) (Rename o w) may other nicks = out_rename_agree u c o w may other
  members_agree (Out u c) (Go x y) may other nicks = out_go_agree u c x y
  members_agree (Out u c) (Out v d) may other nicks = out_out u c v d ch n
  members_agree (Set setting) ours may other nicks = set_members_agree ours setting ch n
  members_agree (Join at begins) ours may other nicks = join_members_agree ours at begins ch n
  members_agree (Come a) (Join at begins) may other nicks =
      sym (join_members_agree (Come a) at begins ch n)
  members_agree (Rename o w) (Join at begins) may other nicks =
      sym (join_members_agree (Rename o w) at begins ch n)
  members_agree (Go x y) (Join at begins) may other nicks =
      sym (join_members_agree (Go x y) at begins ch n)
  members_agree (Out u c) (Join at begins) may other nicks =
      sym (join_members_agree (Out u c) at begins ch n)
  members_agree (Come a) (Set setting) may other nicks =
      sym (set_members_agree (Come a) setting ch n)
  members_agree (Rename o w) (Set setting) may other nicks =
      sym (set_members_agree (Rename o w) setting ch n)
  members_agree (Go x y) (Set setting) may other nicks =
      sym (set_members_agree (Go x y) setting ch n)
  members_agree (Out u c) (Set setting) may other nicks =
      sym (set_members_agree (Out u c) setting ch n)
  members_agree (Come a) (Out u c) may other nicks = sym (out_come_agree u c a other may)
  members_agree (Rename o w) (Out u c) may other nicks = sym (out_rename_agree u c o w other may)
  members_agree (Go x y) (Out u c) may other nicks = sym (out_go_agree u c x y)

pub both_ends_agree : BothEndsAgree
both_ends_agree here theirs ours names may other two n is =
    let nicks = both_nicks_agree here theirs ours names may other two n is in
    record {
      nicks = nicks;
      members = λ ch. members_agree here names n is ch theirs ours may other
          nicks;
    }
