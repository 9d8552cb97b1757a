-- Two changes, each done first at one end.
use Rattle.std.proofs.Common.{◌≡◌, ℕ, Bool, true, false, ◌||◌, Option, Some, None, List}
use Rattle.std.proofs.Common.{refl, sym, ◌∙◌, ap, if◌then◌else◌, rules, nat_eq, true≢false}
use Rattle.std.specs.Cmp.Lexicographic.{pointwise}
use Rattle.std.specs.Option.{option_and_then, option_map_or, option_map}
use Rattle.std.proofs.Math.Bool.{or_comm}
use Rattle.irc_names.specs.Fold.{key, same}
use Rattle.irc_names.specs.FoldLaws.{same-tells}
use Rattle.irc_crossing.specs.declared.change.Change.{Change}
use Rattle.irc_crossing.specs.declared.change.Change.TheVariants.{Come, Rename, Go, Out, Join, Set}
use Rattle.irc_crossing.specs.Changes.{renamed_now}
use Rattle.irc_crossing.specs.Changes.{crossed, is_gone, join_behind, member_now}
use Rattle.irc_crossing.specs.Changes.{gone_of, nick_now, setting_behind, taken_by}
use Rattle.irc_crossing.specs.declared.setting.Setting.{Setting}
use Rattle.irc_crossing.specs.Laws.{AreNames, AreOfTwo, IsPossible, MayGo, MayRename}
use Rattle.irc_crossing.specs.Laws.{NewcomersAgree}
use Rattle.irc_crossing.specs.Laws.{nick_after, nick_behind_both}

-- ---- names that are the same

pub same_self : (nick : List ℕ) → same nick nick ≡ true
same_self nick = (same-tells nick nick).1 refl

pub turned : (one other : List ℕ) → same one other ≡ true → same other one ≡ true
turned one other is = (same-tells other one).1 (sym ((same-tells one other).0 is))

pub not_turned : (one other : List ℕ) → same one other ≡ false → same other one ≡ false
not_turned one other not = by (same other one) refl
  where
    by : (b : Bool) → same other one ≡ b → b ≡ false
    by true is = absurd (true≢false (sym (turned other one is) ∙ not))
    by false is = refl

-- one of two that are the same, against a third
pub first_same : (one other third : List ℕ) → same one other ≡ true
    → same one third ≡ same other third
first_same one other third is =
    ap (λ folds. pointwise nat_eq folds (key third)) ((same-tells one other).0 is)

second_same : (one other third : List ℕ) → same one other ≡ true
    → same third one ≡ same third other
second_same one other third is =
    ap (λ folds. pointwise nat_eq (key third) folds) ((same-tells one other).0 is)

-- ---- who is out of a channel keeps the nickname, and so do all where something is set

pub set_keeps : (nick : List ℕ) (setting : Option Setting)
    → nick_after (option_map Set setting) nick ≡ Some nick
set_keeps nick None = refl
set_keeps nick (Some setting) = refl

out_keeps : (channel nick : List ℕ) (who : Option (List ℕ))
    → nick_after (option_map (λ now. Out now channel) who) nick ≡ Some nick
out_keeps channel nick None = refl
out_keeps channel nick (Some now) = refl

same_then : (change : List ℕ → Option (List ℕ)) → ((nick : List ℕ) → change nick ≡ Some nick)
    → (nick : Option (List ℕ)) → option_and_then change nick ≡ nick
same_then change keeps None = refl
same_then change keeps (Some nick) = keeps nick

behind_out : (ours : Change) (out channel nick : List ℕ)
    → nick_now ours nick ≡ nick_after (crossed ours (Out out channel)) nick
behind_out (Come other) out channel nick = refl
behind_out (Rename old new) out channel nick = by (same old new) refl
  where
    by : (b : Bool) → same old new ≡ b → nick_now (Rename old new) nick
        ≡ nick_after (crossed (Rename old new) (Out out channel)) nick
    by true is = search (rules, is)
    by false is = search (rules, is)
behind_out (Go one None) out channel nick = refl
behind_out (Go one (Some other)) out channel nick = refl
behind_out (Out other from) out channel nick =
    sym (out_keeps from nick (member_now (Out out channel) from other))
behind_out (Join at begins) out channel nick = refl
behind_out (Set setting) out channel nick =
    sym (set_keeps nick (setting_behind (Out out channel) setting))

out_agrees : (ours : Change) (out channel nick : List ℕ)
    → nick_behind_both (Out out channel) ours nick ≡ nick_behind_both ours (Out out channel) nick
out_agrees ours out channel nick =
    same_then (nick_after (crossed (Out out channel) ours))
    (λ it. out_keeps channel it (member_now ours channel out)) (nick_now ours nick)
    ∙ behind_out ours out channel nick

-- ---- what is set leaves nicknames as they are

behind_set : (ours : Change) (setting : Setting) (nick : List ℕ)
    → nick_now ours nick ≡ nick_after (crossed ours (Set setting)) nick
behind_set (Come other) setting nick = refl
behind_set (Rename old new) setting nick = by (same old new) refl
  where
    by : (b : Bool) → same old new ≡ b → nick_now (Rename old new) nick
        ≡ nick_after (crossed (Rename old new) (Set setting)) nick
    by true is = search (rules, is)
    by false is = search (rules, is)
behind_set (Go one None) setting nick = refl
behind_set (Go one (Some other)) setting nick = refl
behind_set (Out other from) setting nick = refl
behind_set (Join at begins) setting nick = refl
behind_set (Set other) setting nick = sym (set_keeps nick (setting_behind (Set setting) other))

set_agrees : (ours : Change) (setting : Setting) (nick : List ℕ)
    → nick_behind_both (Set setting) ours nick ≡ nick_behind_both ours (Set setting) nick
set_agrees ours setting nick =
    same_then (nick_after (crossed (Set setting) ours))
    (λ it. set_keeps it (setting_behind ours setting)) (nick_now ours nick)
    ∙ behind_set ours setting nick

-- ---- and so does who comes to a channel

pub join_keeps : (channel : List ℕ) (begins : Bool) (ours : Change) (nick : List ℕ)
    → nick_after (Some (join_behind channel begins ours)) nick ≡ Some nick
join_keeps channel begins (Come other) nick = refl
join_keeps channel begins (Rename old new) nick = refl
join_keeps channel begins (Go one other) nick = refl
join_keeps channel begins (Out other from) nick = refl
join_keeps channel begins (Set setting) nick = refl
join_keeps channel begins (Join at other) nick = refl

behind_join : (ours : Change) (channel : List ℕ) (begins : Bool) (nick : List ℕ)
    → nick_now ours nick ≡ nick_after (crossed ours (Join channel begins)) nick
behind_join (Come other) channel begins nick = refl
behind_join (Rename old new) channel begins nick = by (same old new) refl
  where
    by : (b : Bool) → same old new ≡ b → nick_now (Rename old new) nick
        ≡ nick_after (crossed (Rename old new) (Join channel begins)) nick
    by true is = search (rules, is)
    by false is = search (rules, is)
behind_join (Go one None) channel begins nick = refl
behind_join (Go one (Some other)) channel begins nick = refl
behind_join (Out other from) channel begins nick = refl
behind_join (Join at other) channel begins nick =
    sym (join_keeps at other (Join channel begins) nick)
behind_join (Set setting) channel begins nick =
    sym (set_keeps nick (setting_behind (Join channel begins) setting))

join_agrees : (ours : Change) (channel : List ℕ) (begins : Bool) (nick : List ℕ)
    → nick_behind_both (Join channel begins) ours nick
    ≡ nick_behind_both ours (Join channel begins) nick
join_agrees ours channel begins nick =
    same_then (nick_after (crossed (Join channel begins) ours)) (join_keeps channel begins ours)
    (nick_now ours nick)
    ∙ behind_join ours channel begins nick

-- ---- where two come, or one does

come_come : (a b n : List ℕ) (met : Bool) → same a b ≡ met → same b a ≡ met → same a n ≡ false
    → same b n ≡ false → nick_behind_both (Come a) (Come b) n ≡ nick_behind_both (Come b) (Come a) n
come_come a b n true met turned_met an bn = search (rules, met, turned_met, an, bn)
come_come a b n false met turned_met an bn = search (rules, met, turned_met, an, bn)

come_spelled : (a o w n : List ℕ) → same o w ≡ true → same a n ≡ false → same a o ≡ false
    → nick_behind_both (Come a) (Rename o w) n ≡ nick_behind_both (Rename o w) (Come a) n
come_spelled a o w n spelled an ao = search (rules, spelled, an, ao)

come_rename : (a o w n : List ℕ) (met on : Bool) → same o w ≡ false → same a n ≡ false
    → same a o ≡ false → same w n ≡ false → same a w ≡ met → same w a ≡ met → same o n ≡ on
    → nick_behind_both (Come a) (Rename o w) n ≡ nick_behind_both (Rename o w) (Come a) n
come_rename a o w n true true ow an ao wn aw wa is = search (rules, ow, an, ao, wn, aw, wa, is)
come_rename a o w n true false ow an ao wn aw wa is = search (rules, ow, an, ao, wn, aw, wa, is)
come_rename a o w n false true ow an ao wn aw wa is = search (rules, ow, an, ao, wn, aw, wa, is)
come_rename a o w n false false ow an ao wn aw wa is = search (rules, ow, an, ao, wn, aw, wa, is)

come_go : (a x n : List ℕ) (xn : Bool) → same x n ≡ xn → same a n ≡ false → same a x ≡ false
    → nick_behind_both (Come a) (Go x None) n ≡ nick_behind_both (Go x None) (Come a) n
come_go a x n true xn an ax = search (rules, xn, an, ax)
come_go a x n false xn an ax = search (rules, xn, an, ax)

come_go_two : (a x y n : List ℕ) (xn yn : Bool) → same x n ≡ xn → same y n ≡ yn → same a n ≡ false
    → same a x ≡ false → same a y ≡ false
    → nick_behind_both (Come a) (Go x (Some y)) n ≡ nick_behind_both (Go x (Some y)) (Come a) n
come_go_two a x y n true true xn yn an ax ay = search (rules, xn, yn, an, ax, ay)
come_go_two a x y n true false xn yn an ax ay = search (rules, xn, yn, an, ax, ay)
come_go_two a x y n false true xn yn an ax ay = search (rules, xn, yn, an, ax, ay)
come_go_two a x y n false false xn yn an ax ay = search (rules, xn, yn, an, ax, ay)

-- ---- two who take another nickname

both_spelled : (o w p v n : List ℕ) → same o w ≡ true → same p v ≡ true
    → nick_behind_both (Rename o w) (Rename p v) n ≡ nick_behind_both (Rename p v) (Rename o w) n
both_spelled o w p v n ow pv = search (rules, ow, pv)

one_spelled : (o w p v n : List ℕ) (pn : Bool) → same o w ≡ true → same p v ≡ false
    → same p o ≡ false → same v o ≡ false → same v n ≡ false → same p n ≡ pn
    → nick_behind_both (Rename o w) (Rename p v) n ≡ nick_behind_both (Rename p v) (Rename o w) n
one_spelled o w p v n true ow pv po vo vn is = search (rules, ow, pv, po, vo, vn, is)
one_spelled o w p v n false ow pv po vo vn is = search (rules, ow, pv, po, vo, vn, is)

-- the first is no other one's, nor is the second
record AreApart (o w p v n : List ℕ) : Type 0 where
  ow : same o w ≡ false
  pv : same p v ≡ false
  op : same o p ≡ false
  po : same p o ≡ false
  wn : same w n ≡ false
  vn : same v n ≡ false
  wp : same w p ≡ false
  pw : same p w ≡ false
  vo : same v o ≡ false
  ov : same o v ≡ false

none_spelled : (o w p v n : List ℕ) (met on pn : Bool) → AreApart o w p v n → same w v ≡ met
    → same v w ≡ met → same o n ≡ on → same p n ≡ pn
    → nick_behind_both (Rename o w) (Rename p v) n ≡ nick_behind_both (Rename p v) (Rename o w) n
none_spelled o w p v n met true true are wv vw on pn =
    absurd (true≢false (sym (turned p n pn) ∙ sym (first_same o n p on) ∙ are.op))
none_spelled o w p v n true true false are wv vw on pn =
    search (
      rules,
      are.ow,
      are.pv,
      are.op,
      are.po,
      are.wn,
      are.vn,
      are.wp,
      are.pw,
      are.vo,
      are.ov,
      wv,
      vw,
      on,
      pn,
    )
none_spelled o w p v n true false true are wv vw on pn =
    search (
      rules,
      are.ow,
      are.pv,
      are.op,
      are.po,
      are.wn,
      are.vn,
      are.wp,
      are.pw,
      are.vo,
      are.ov,
      wv,
      vw,
      on,
      pn,
    )
none_spelled o w p v n true false false are wv vw on pn =
    search (
      rules,
      are.ow,
      are.pv,
      are.op,
      are.po,
      are.wn,
      are.vn,
      are.wp,
      are.pw,
      are.vo,
      are.ov,
      wv,
      vw,
      on,
      pn,
    )
none_spelled o w p v n false true false are wv vw on pn =
    search (
      rules,
      are.ow,
      are.pv,
      are.op,
      are.po,
      are.wn,
      are.vn,
      are.wp,
      are.pw,
      are.vo,
      are.ov,
      wv,
      vw,
      on,
      pn,
    )
none_spelled o w p v n false false true are wv vw on pn =
    search (
      rules,
      are.ow,
      are.pv,
      are.op,
      are.po,
      are.wn,
      are.vn,
      are.wp,
      are.pw,
      are.vo,
      are.ov,
      wv,
      vw,
      on,
      pn,
    )
none_spelled o w p v n false false false are wv vw on pn =
    search (
      rules,
      are.ow,
      are.pv,
      are.op,
      are.po,
      are.wn,
      are.vn,
      are.wp,
      are.pw,
      are.vo,
      are.ov,
      wv,
      vw,
      on,
      pn,
    )

-- ---- one who takes another nickname, and one or two who go

-- where it is another spelling alone, those who go are the same
spelled_keeps : (o w x : List ℕ) (y : Option (List ℕ)) (n : List ℕ) (gone : Bool)
    → same o w ≡ true → is_gone x y o ≡ gone
    → nick_after (crossed (Rename o w) (Go x y)) n ≡ Some n
spelled_keeps o w x y n true ow is = search (rules, ow, is)
spelled_keeps o w x y n false ow is = search (rules, ow, is)

spelled_left : (o w x : List ℕ) (y : Option (List ℕ)) (n : List ℕ) → same o w ≡ true
    → nick_now (Go x y) n ≡ nick_behind_both (Go x y) (Rename o w) n
spelled_left o w x None n ow = search (rules, ow)
spelled_left o w x (Some y) n ow = search (rules, ow)

spelled_go : (o w x : List ℕ) (y : Option (List ℕ)) (n : List ℕ) → same o w ≡ true
    → nick_behind_both (Rename o w) (Go x y) n ≡ nick_behind_both (Go x y) (Rename o w) n
spelled_go o w x y n ow =
    same_then (nick_after (crossed (Rename o w) (Go x y)))
    (λ it. spelled_keeps o w x y it (is_gone x y o) ow refl) (nick_now (Go x y) n)
    ∙ spelled_left o w x y n ow

-- of somebody who goes: whether it is the one who takes another nickname, and the one at hand
pub record IsGoer (o w n x : List ℕ) (first at : Bool) : Type 0 where
  pub ox : same o x ≡ first
  pub xo : same x o ≡ first
  pub xn : same x n ≡ at
  pub wx : same w x ≡ false
  pub xw : same x w ≡ false

pub record IsMover (o w n : List ℕ) (on : Bool) : Type 0 where
  pub ow : same o w ≡ false
  pub wn : same w n ≡ false
  pub ww : same w w ≡ true
  pub here : same o n ≡ on

abbrev moved : (w n : List ℕ) → Bool → List ℕ
moved w n on = if on then w else n

renamed_is : (o w n : List ℕ) (on : Bool) → same o w ≡ false → same w n ≡ false → same o n ≡ on
    → renamed_now o w n ≡ Some (moved w n on)
renamed_is o w n true ow wn is = search (rules, ow, wn, is)
renamed_is o w n false ow wn is = search (rules, ow, wn, is)

-- who goes is the one at hand by the next nicknames if it is by those before
moved_alike : (o w x n : List ℕ) (on first at : Bool) → IsMover o w n on → IsGoer o w n x first at
    → same (moved w x first) (moved w n on) ≡ same x n
moved_alike o w x n true true true m g = m.ww ∙ sym g.xn
moved_alike o w x n true true false m g =
    absurd (true≢false (sym g.ox ∙ first_same o n x m.here ∙ not_turned x n g.xn))
moved_alike o w x n true false true m g =
    absurd (true≢false (sym (turned x n g.xn) ∙ sym (first_same o n x m.here) ∙ g.ox))
moved_alike o w x n true false false m g = g.xw ∙ sym g.xn
moved_alike o w x n false true true m g =
    absurd (true≢false (sym g.xn ∙ sym (first_same o x n g.ox) ∙ m.here))
moved_alike o w x n false true false m g = m.wn ∙ sym g.xn
moved_alike o w x n false false at m g = refl

module _ (o w n : List ℕ) (on : Bool) (m : IsMover o w n on) where
  -- by the change of the nickname first
  goer_behind : (x : List ℕ) (first at : Bool) → IsGoer o w n x first at
      → nick_behind_both (Go x None) (Rename o w) n
      ≡ (if is_gone x None n then None else Some (moved w n on))
  goer_behind x first at g =
      (λ i. option_and_then (nick_after (gone_of (renamed_is o w x first m.ow g.wx g.ox i) None))
      (renamed_is o w n on m.ow m.wn m.here i))
      ∙ ap (λ b. if b || false then None else Some (moved w n on))
      (moved_alike o w x n on first at m g)

  goers_behind : (x y : List ℕ) (first at second and_at : Bool) → IsGoer o w n x first at
      → IsGoer o w n y second and_at → nick_behind_both (Go x (Some y)) (Rename o w) n
      ≡ (if is_gone x (Some y) n then None else Some (moved w n on))
  goers_behind x y first at second and_at g h =
      (λ i. option_and_then (nick_after (gone_of (renamed_is o w x first m.ow g.wx g.ox i)
      (renamed_is o w y second m.ow h.wx h.ox i)))
      (renamed_is o w n on m.ow m.wn m.here i))
      ∙ (λ i. if moved_alike o w x n on first at m g i || moved_alike o w y n on second and_at m h i
      then None else Some (moved w n on))

pub gone_alike : (x : List ℕ) (y : Option (List ℕ)) (one other : List ℕ) → same one other ≡ true
    → is_gone x y one ≡ is_gone x y other
gone_alike x y one other is =
    ap (λ folds. pointwise nat_eq (key x) folds
    || option_map_or (λ it. pointwise nat_eq (key it) folds) y false)
    ((same-tells one other).0 is)

-- by those first who go
mover_behind : (o w x : List ℕ) (y : Option (List ℕ)) (n : List ℕ) (on gone first : Bool)
    → IsMover o w n on → is_gone x y n ≡ gone → is_gone x y o ≡ first
    → nick_behind_both (Rename o w) (Go x y) n
    ≡ (if is_gone x y n then None else Some (moved w n on))
mover_behind o w x y n on true first m at and_at = search (rules, at)
mover_behind o w x y n true false true m at and_at =
    absurd (true≢false (sym and_at ∙ gone_alike x y o n m.here ∙ at))
mover_behind o w x y n true false false m at and_at =
    search (rules, m.ow, m.wn, m.here, at, and_at)
mover_behind o w x y n false false true m at and_at =
    search (rules, m.ow, m.wn, m.here, at, and_at)
mover_behind o w x y n false false false m at and_at =
    search (rules, m.ow, m.wn, m.here, at, and_at)

-- ---- those who go

module _ (p : List ℕ) (q : Option (List ℕ)) (n : List ℕ) where
  abbrev theirs_then : Option Change → Option (List ℕ)
  theirs_then left = option_and_then (nick_after left) (nick_now (Go p q) n)

  -- who goes by this end's change alone is not the one at hand
  not_at : (x : List ℕ) → is_gone p q n ≡ false → is_gone p q x ≡ true → same x n ≡ false
  not_at x stays gone = by (same x n) refl
    where
      by : (b : Bool) → same x n ≡ b → b ≡ false
      by true is = absurd (true≢false (sym gone ∙ gone_alike p q x n is ∙ stays))
      by false is = refl

  go_one : (x : List ℕ) (ours gone xn : Bool) → is_gone p q n ≡ ours → is_gone p q x ≡ gone
      → same x n ≡ xn
      → theirs_then (gone_of (nick_now (Go p q) x) None)
      ≡ (if ours || (xn || false) then None else Some n)
  go_one x true gone xn us it at = search (rules, us)
  go_one x false true true us it at = absurd (true≢false (sym at ∙ not_at x us it))
  go_one x false true false us it at = search (rules, us, it, at)
  go_one x false false true us it at = search (rules, us, it, at)
  go_one x false false false us it at = search (rules, us, it, at)

  go_two : (x y : List ℕ) (ours first second xn yn : Bool) → is_gone p q n ≡ ours
      → is_gone p q x ≡ first → is_gone p q y ≡ second → same x n ≡ xn → same y n ≡ yn
      → theirs_then (gone_of (nick_now (Go p q) x) (nick_now (Go p q) y))
      ≡ (if ours || (xn || yn) then None else Some n)
  go_two x y true first second xn yn us one two at and_at = search (rules, us)
  go_two x y false true second true yn us one two at and_at =
      absurd (true≢false (sym at ∙ not_at x us one))
  go_two x y false first true xn true us one two at and_at =
      absurd (true≢false (sym and_at ∙ not_at y us two))
  go_two x y false true true false false us one two at and_at =
      search (rules, us, one, two, at, and_at)
  go_two x y false true false false true us one two at and_at =
      search (rules, us, one, two, at, and_at)
  go_two x y false true false false false us one two at and_at =
      search (rules, us, one, two, at, and_at)
  go_two x y false false true true false us one two at and_at =
      search (rules, us, one, two, at, and_at)
  go_two x y false false true false false us one two at and_at =
      search (rules, us, one, two, at, and_at)
  go_two x y false false false true true us one two at and_at =
      search (rules, us, one, two, at, and_at)
  go_two x y false false false true false us one two at and_at =
      search (rules, us, one, two, at, and_at)
  go_two x y false false false false true us one two at and_at =
      search (rules, us, one, two, at, and_at)
  go_two x y false false false false false us one two at and_at =
      search (rules, us, one, two, at, and_at)

  all_go : (x : List ℕ) (y : Option (List ℕ)) → nick_behind_both (Go x y) (Go p q) n
      ≡ (if is_gone p q n || is_gone x y n then None else Some n)
  all_go x None = go_one x (is_gone p q n) (is_gone p q x) (same x n) refl refl refl
  all_go x (Some y) = go_two x y (is_gone p q n) (is_gone p q x) (is_gone p q y)
      (same x n) (same y n) refl refl refl refl refl

go_agrees : (x : List ℕ) (y : Option (List ℕ)) (p : List ℕ) (q : Option (List ℕ)) (n : List ℕ)
    → nick_behind_both (Go x y) (Go p q) n ≡ nick_behind_both (Go p q) (Go x y) n
go_agrees x y p q n =
    all_go p q n x y
    ∙ ap (λ b. if b then None else Some n) (or_comm (is_gone p q n) (is_gone x y n))
    ∙ sym (all_go x y n p q)

-- ---- among names

pub either_way : (one other : List ℕ) → same other one ≡ same one other
either_way one other = by (same one other) refl
  where
    by : (b : Bool) → same one other ≡ b → same other one ≡ b
    by true is = turned one other is
    by false is = not_turned one other is

module _ (here : List ℕ → Bool) (names : AreNames here) where
  apart : (one other : List ℕ) → here one ≡ true → here other ≡ false → same one other ≡ false
  apart one other is free = by (same one other) refl
    where
      by : (b : Bool) → same one other ≡ b → b ≡ false
      by true alike = absurd (true≢false (sym is ∙ names one other alike ∙ free))
      by false alike = refl

  pub free_of : (free one : List ℕ) → here free ≡ false → here one ≡ true → same free one ≡ false
  free_of free one none is = not_turned one free (apart one free is none)

  module _ (n : List ℕ) (is : here n ≡ true) where
    abbrev Agree : (theirs ours : Change) → Type 0
    Agree theirs ours = nick_behind_both theirs ours n ≡ nick_behind_both ours theirs n

    come_come_agree : (a b : List ℕ) → here a ≡ false → here b ≡ false → Agree (Come a) (Come b)
    come_come_agree a b free other = come_come a b n (same a b) refl (either_way a b)
        (free_of a n free is) (free_of b n other is)

    come_rename_agree : (a o w : List ℕ) → here a ≡ false → MayRename here o w
        → Agree (Come a) (Rename o w)
    come_rename_agree a o w free may = by (same o w) refl
      where
        by : (b : Bool) → same o w ≡ b → Agree (Come a) (Rename o w)
        by true spelled =
            come_spelled a o w n spelled (free_of a n free is) (free_of a o free may.had)
        by false other = come_rename a o w n (same a w) (same o n) other (free_of a n free is)
            (free_of a o free may.had) (free_of w n (may.free other) is) refl (either_way a w) refl

    come_go_agree : (a x : List ℕ) (y : Option (List ℕ)) → here a ≡ false → MayGo here x y
        → Agree (Come a) (Go x y)
    come_go_agree a x None free may =
        come_go a x n (same x n) refl (free_of a n free is) (free_of a x free may.one)
    come_go_agree a x (Some y) free may =
        come_go_two a x y n (same x n) (same y n) refl refl (free_of a n free is)
        (free_of a x free may.one) (free_of a y free may.second)

    rename_rename_agree : (o w p v : List ℕ) → MayRename here o w → MayRename here p v
        → same o p ≡ false → Agree (Rename o w) (Rename p v)
    rename_rename_agree o w p v may other two = by (same o w) (same p v) refl refl
      where
        po : same p o ≡ false
        po = not_turned o p two

        by : (a b : Bool) → same o w ≡ a → same p v ≡ b → Agree (Rename o w) (Rename p v)
        by true true ow pv = both_spelled o w p v n ow pv
        by true false ow pv = one_spelled o w p v n (same p n) ow pv po
            (free_of v o (other.free pv) may.had) (free_of v n (other.free pv) is) refl
        by false true ow pv = sym (one_spelled p v o w n (same o n) pv ow two
            (free_of w p (may.free ow) other.had) (free_of w n (may.free ow) is) refl)
        by false false ow pv = none_spelled o w p v n (same w v) (same o n) (same p n)
            (record {
              ow = ow;
              pv = pv;
              op = two;
              po = po;
              wn = free_of w n (may.free ow) is;
              vn = free_of v n (other.free pv) is;
              wp = free_of w p (may.free ow) other.had;
              pw = apart p w other.had (may.free ow);
              vo = free_of v o (other.free pv) may.had;
              ov = apart o v may.had (other.free pv);
            })
            refl (either_way w v) refl refl

    pub goer : (o w x : List ℕ) → here w ≡ false → here x ≡ true
        → IsGoer o w n x (same o x) (same x n)
    goer o w x free there = record {
      ox = refl;
      xo = either_way o x;
      xn = refl;
      wx = free_of w x free there;
      xw = apart x w there free;
    }

    rename_go_agree : (o w x : List ℕ) (y : Option (List ℕ)) → MayRename here o w
        → MayGo here x y → Agree (Rename o w) (Go x y)
    rename_go_agree o w x y may go = by (same o w) refl
      where
        mover : same o w ≡ false → IsMover o w n (same o n)
        mover ow = record {
          ow = ow;
          wn = free_of w n (may.free ow) is;
          ww = same_self w;
          here = refl;
        }

        both : (y : Option (List ℕ)) → MayGo here x y → (ow : same o w ≡ false)
            → nick_behind_both (Go x y) (Rename o w) n
            ≡ (if is_gone x y n then None else Some (moved w n (same o n)))
        both None go ow = goer_behind o w n (same o n) (mover ow) x (same o x) (same x n)
            (goer o w x (may.free ow) go.one)
        both (Some y) go ow =
            goers_behind o w n (same o n) (mover ow) x y (same o x) (same x n) (same o y) (same y n)
            (goer o w x (may.free ow) go.one) (goer o w y (may.free ow) go.second)

        by : (b : Bool) → same o w ≡ b → Agree (Rename o w) (Go x y)
        by true ow = spelled_go o w x y n ow
        by false ow =
            mover_behind o w x y n (same o n) (is_gone x y n) (is_gone x y o) (mover ow) refl refl
            ∙ sym (both y go ow)

pub both_nicks_agree : (here : List ℕ → Bool) (theirs ours : Change) → AreNames here
    → IsPossible here theirs → IsPossible here ours → AreOfTwo theirs ours
    → (nick : List ℕ) → here nick ≡ true
    → nick_behind_both theirs ours nick ≡ nick_behind_both ours theirs nick
both_nicks_agree here (Out out channel) ours names may other two n is =
    out_agrees ours out channel n
both_nicks_agree here (Set setting) ours names may other two n is = set_agrees ours setting n
both_nicks_agree here (Join channel begins) ours names may other two n is =
    join_agrees ours channel begins n
both_nicks_agree here (Come a) (Join channel begins) names may other two n is =
    sym (join_agrees (Come a) channel begins n)
both_nicks_agree here (Rename o w) (Join channel begins) names may other two n is =
    sym (join_agrees (Rename o w) channel begins n)
both_nicks_agree here (Go x y) (Join channel begins) names may other two n is =
    sym (join_agrees (Go x y) channel begins n)
both_nicks_agree here (Come a) (Set setting) names may other two n is =
    sym (set_agrees (Come a) setting n)
both_nicks_agree here (Rename o w) (Set setting) names may other two n is =
    sym (set_agrees (Rename o w) setting n)
both_nicks_agree here (Go x y) (Set setting) names may other two n is =
    sym (set_agrees (Go x y) setting n)
both_nicks_agree here (Come a) (Out out channel) names may other two n is =
    sym (out_agrees (Come a) out channel n)
both_nicks_agree here (Rename o w) (Out out channel) names may other two n is =
    sym (out_agrees (Rename o w) out channel n)
both_nicks_agree here (Go x y) (Out out channel) names may other two n is =
    sym (out_agrees (Go x y) out channel n)
both_nicks_agree here (Come a) (Come b) names may other two n is =
    come_come_agree here names n is a b may other
both_nicks_agree here (Come a) (Rename o w) names may other two n is =
    come_rename_agree here names n is a o w may other
both_nicks_agree here (Come a) (Go x y) names may other two n is =
    come_go_agree here names n is a x y may other
both_nicks_agree here (Rename o w) (Come a) names may other two n is =
    sym (come_rename_agree here names n is a o w other may)
both_nicks_agree here (Rename o w) (Rename p v) names may other two n is =
    rename_rename_agree here names n is o w p v may other two
both_nicks_agree here (Rename o w) (Go x y) names may other two n is =
    rename_go_agree here names n is o w x y may other
both_nicks_agree here (Go x y) (Come a) names may other two n is =
    sym (come_go_agree here names n is a x y other may)
both_nicks_agree here (Go x y) (Rename o w) names may other two n is =
    sym (rename_go_agree here names n is o w x y other may)
both_nicks_agree here (Go x y) (Go p q) names may other two n is = go_agrees x y p q n

-- ---- who comes

newcomer_met : (a o w : List ℕ) (met : Bool) → same a w ≡ met → same w a ≡ met → same o w ≡ false
    → same o a ≡ false → same a o ≡ false → nick_after (crossed (Rename o w) (Come a)) a
    ≡ option_and_then taken_by (crossed (Come a) (Rename o w))
newcomer_met a o w true aw wa ow oa ao = search (rules, aw, wa, ow, oa, ao)
newcomer_met a o w false aw wa ow oa ao = search (rules, aw, wa, ow, oa, ao)

newcomer_spelled : (a o w : List ℕ) → same o w ≡ true → same a o ≡ false
    → nick_after (crossed (Rename o w) (Come a)) a
    ≡ option_and_then taken_by (crossed (Come a) (Rename o w))
newcomer_spelled a o w ow ao = search (rules, ow, ao)

newcomers_meet : (a b : List ℕ) (met : Bool) → same a b ≡ met → same b a ≡ met → nick_after
    (crossed (Come b) (Come a)) a ≡ option_and_then taken_by (crossed (Come a) (Come b))
newcomers_meet a b true ab ba = search (rules, ab, ba)
newcomers_meet a b false ab ba = search (rules, ab, ba)

newcomer_stays : (a x : List ℕ) → same x a ≡ false → same a x ≡ false
    → nick_after (crossed (Go x None) (Come a)) a ≡ Some a
newcomer_stays a x xa ax = search (rules, xa, ax)

newcomer_stays_of_two : (a x y : List ℕ) → same x a ≡ false → same y a ≡ false → same a x ≡ false
    → same a y ≡ false → nick_after (crossed (Go x (Some y)) (Come a)) a ≡ Some a
newcomer_stays_of_two a x y xa ya ax ay = search (rules, xa, ya, ax, ay)

pub newcomers_agree : NewcomersAgree
newcomers_agree here a (Come b) names free may = newcomers_meet a b (same a b) refl (either_way a b)
newcomers_agree here a (Rename o w) names free may = by (same o w) refl
  where
    by : (b : Bool) → same o w ≡ b → nick_after (crossed (Rename o w) (Come a)) a
        ≡ option_and_then taken_by (crossed (Come a) (Rename o w))
    by true ow = newcomer_spelled a o w ow (free_of here names a o free may.had)
    by false ow = newcomer_met a o w (same a w) refl (either_way a w) ow
        (apart here names o a may.had free) (free_of here names a o free may.had)
newcomers_agree here a (Go x None) names free may =
    newcomer_stays a x (apart here names x a may.one free) (free_of here names a x free may.one)
newcomers_agree here a (Go x (Some y)) names free may =
    newcomer_stays_of_two a x y (apart here names x a may.one free)
    (apart here names y a may.second free)
    (free_of here names a x free may.one) (free_of here names a y free may.second)
newcomers_agree here a (Out out channel) names free may =
    out_keeps channel a (member_now (Come a) channel out)
newcomers_agree here a (Join channel begins) names free may =
    join_keeps channel begins (Come a) a
newcomers_agree here a (Set setting) names free may = set_keeps a (setting_behind (Come a) setting)
