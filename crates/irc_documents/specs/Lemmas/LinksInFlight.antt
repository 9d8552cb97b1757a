-- A link stays in flight.
use Rattle.std.proofs.Common.{◌≡◌, ℕ, ◌+◌, ◌-◌, ◌≤◌, suc, map}
use Rattle.std.proofs.Common.{List, [], ◌∷◌, ◌++◌, length, take, drop}
use Rattle.std.proofs.Common.{refl, sym, ap, subst, ◌∙◌, append_assoc, arith}
use Rattle.irc_documents.specs.Editing.{Editing, Meet, HasDiamond}
use Rattle.irc_documents.specs.Lists.{all_done, AllMay, through, behind, Meets}
use Rattle.irc_documents.specs.Ends.{Message, told, only_count, AreCounts, End, with_more}
use Rattle.irc_documents.specs.Ends.{written, counted_off, became, after_told, all_became}
use Rattle.irc_documents.specs.Flight.{Side, IsCount, IsOperation, AreGood, IsOnTheWay, IsInFlight}
use Rattle.irc_documents.specs.Networks.{begun, sent, Makes}
use Rattle.irc_documents.specs.Lemmas.OneBehindAnother.{done_behind, may_join, may_front}
use Rattle.irc_documents.specs.Lemmas.OneBehindAnother.{may_rest}
use Rattle.irc_documents.specs.Lemmas.CrossingLists.{through_both, both_behind, as_many_behind}
use Rattle.irc_documents.specs.Lemmas.CrossingLists.{crosses, turn, meets_all, meets_join}
use Rattle.irc_documents.specs.Lemmas.CrossingLists.{meets_rest}
use Rattle.std.proofs.lemmas.List.{take-append-drop, take-append-le, drop-append-le, length-drop}
use Rattle.std.proofs.lemmas.List.{length-append, append-nil}
use Rattle.std.proofs.Math.Seq.{take-length}

-- what is left of a log once a count is taken off
left_over : {A : Type 0} (counted count : ℕ) (log : List A) → counted ≤ count
    → count ≤ counted + length log
    → count + length (drop (count - counted) log) ≡ counted + length log
left_over counted count log least most =
    let e = length-drop (count - counted) log in omega arith

within : (counted count n : ℕ) → count ≤ counted + n → count - counted ≤ n
within counted count n most = omega arith

none_left : {A : Type 0} (log : List A) → drop (length log) log ≡ []
none_left [] = refl
none_left (a ∷ log) = none_left log

with_more_of : {Doc Op : Type 0} (end : End Doc Op) (xs ys : List Op)
    → with_more (with_more end xs) ys ≡ with_more end (xs ++ ys)
with_more_of end xs ys = ap (λ log. record end { log = log }) (append_assoc end.log xs ys)

module _ {Doc Op : Type 0} (e : Editing Doc Op) where
  -- where an end's log leads
  abbrev reached : End Doc Op → Doc
  reached end = all_done e end.base end.log

  -- ---- one message, read by an end with operations behind its log

  -- so many fewer, and still the operations behind it
  off_more : (end : End Doc Op) (more : List Op) (count : ℕ) → count ≤ end.counted + length end.log
      → counted_off e (with_more end more) count ≡ with_more (counted_off e end count) more
  off_more end more count most =
      let n = count - end.counted in
      let few = within end.counted count (length end.log) most in
      ap (λ front. record {
        base = all_done e end.base front;
        log = drop n (end.log ++ more);
        counted = count;
        read = end.read;
      }) (take-append-le n end.log more few)
      ∙ ap (λ log. record {
        base = all_done e end.base (take n end.log);
        log = log;
        counted = count;
        read = end.read;
      }) (drop-append-le n end.log more few)

  off_reaches : (end : End Doc Op) (count : ℕ)
      → reached (counted_off e end count) ≡ reached end
  off_reaches end count =
      let n = count - end.counted in
      sym (done_behind e end.base (take n end.log) (drop n end.log))
      ∙ ap (all_done e end.base) (take-append-drop n end.log)

  off_may : (end : End Doc Op) (count : ℕ) → AllMay e end.base end.log
      → AllMay e (counted_off e end count).base (counted_off e end count).log
  off_may end count may =
      let n = count - end.counted in
      may_rest e end.base (take n end.log) (drop n end.log)
      (subst (AllMay e end.base) (sym (take-append-drop n end.log)) may)

  -- an end from which nothing more is counted off
  abbrev through_end : End Doc Op → Op → Op
  through_end off op = through e off.base op off.log

  abbrev read_by : End Doc Op → Op → End Doc Op
  read_by off op = record {
    base = e.done off.base op;
    log = behind e off.base off.log op;
    counted = off.counted;
    read = suc off.read;
  }

  became_more : (end : End Doc Op) (more : List Op) (count : ℕ) (op : Op)
      → IsCount e end count → became e (with_more end more) count op
      ≡ through e (reached end) (became e end count op) more
  became_more end more count op good =
      let off = counted_off e end count in
      ap (λ f. through_end f op) (off_more end more count good.most)
      ∙ through_both e off.base op off.log more
      ∙ ap (λ s. through e s (became e end count op) more) (off_reaches end count)

  after_more : (end : End Doc Op) (more : List Op) (count : ℕ) (op : Op)
      → IsCount e end count → after_told e (with_more end more) count op
      ≡ with_more (after_told e end count op)
      (behind e (reached end) more (became e end count op))
  after_more end more count op good =
      let off = counted_off e end count in
      ap (λ f. read_by f op) (off_more end more count good.most)
      ∙ ap (λ log. record {
        base = e.done off.base op;
        log = log;
        counted = count;
        read = suc end.read;
      }) (both_behind e off.base off.log more op
      ∙ ap (λ s. behind e off.base off.log op ++ behind e s more (became e end count op))
      (off_reaches end count))

  -- ---- one operation, read

  record Reads (end : End Doc Op) (count : ℕ) (op : Op) : Type 0 where
    leads : reached (after_told e end count op) ≡ e.done (reached end) (became e end count op)
    became_may : e.may (reached end) (became e end count op)
    log_may : AllMay e (after_told e end count op).base (after_told e end count op).log
    counts : count + length (after_told e end count op).log ≡ end.counted + length end.log

  reads : (end : End Doc Op) (count : ℕ) (op : Op) → IsOperation e end count op
      → Reads end count op
  reads end count op good =
      let off = counted_off e end count in
      let one = crosses e off.base off.log op good.may good.meets in
      let here = off_reaches end count in
      record {
        leads = one.same ∙ ap (λ s. e.done s (became e end count op)) here;
        became_may = subst (λ s. e.may s (became e end count op)) here one.through_may;
        log_may = one.behind_may;
        counts = ap (λ n. count + n) (as_many_behind e off.base off.log op)
            ∙ left_over end.counted count end.log good.counts.least good.counts.most;
      }

  -- ---- the reader, while its writer writes

  -- the count that says that all of the log was read
  count_of_all : (end : End Doc Op) (count : ℕ) → end.counted + length end.log ≡ count
      → IsCount e end count
  count_of_all end count all = record { least = omega arith; most = omega arith }

  module _ (end : End Doc Op) (count : ℕ) (all : end.counted + length end.log ≡ count) where
    long : count - end.counted ≡ length end.log
    long = omega arith

    all_off : take (count - end.counted) end.log ≡ end.log
    all_off = ap (λ k. take k end.log) long ∙ take-length end.log

    none_stays : drop (count - end.counted) end.log ≡ []
    none_stays = ap (λ k. drop k end.log) long ∙ none_left end.log

  record Written (end : End Doc Op) (queue : List (Message Op)) (count : ℕ) (op : Op) : Type 0
    where
      good : AreGood e end (queue ++ told count op ∷ [])
      made : all_became e end (queue ++ told count op ∷ []) ≡ all_became e end queue ++ op ∷ []

  write_more : (end : End Doc Op) (queue : List (Message Op)) (count : ℕ) (op : Op)
      → AreGood e end queue → end.counted + length end.log ≡ count
      → e.may (all_done e (reached end) (all_became e end queue)) op
      → Written end queue count op
  write_more end [] count op good all may = record {
    good = (
      record {
        counts = count_of_all end count all;
        may = subst (λ front. e.may (all_done e end.base front) op) (sym (all_off end count all))
            may;
        meets = subst (λ log. Meets e (counted_off e end count).base log op)
            (sym (none_stays end count all)) tt;
      },
      tt,
    );
    made = ap (λ log. through e (counted_off e end count).base op log ∷ [])
        (none_stays end count all);
  }
  write_more end (told n first ∷ queue) count op good all may =
      let one = reads end n first good.0 in
      let next = after_told e end n first in
      let rest = write_more next queue count op good.1 (one.counts ∙ all)
      (subst (λ s. e.may (all_done e s (all_became e next queue)) op) (sym one.leads) may) in
      record {
        good = (good.0, rest.good);
        made = ap (λ more. became e end n first ∷ more) rest.made;
      }
  write_more end (only_count n ∷ queue) count op good all may =
      let off = counted_off e end n in
      let rest = write_more off queue count op good.1
      (left_over end.counted n end.log good.0.least good.0.most ∙ all)
      (subst (λ s. e.may (all_done e s (all_became e off queue)) op) (sym (off_reaches end n))
      may) in
      record { good = (good.0, rest.good); made = rest.made }

  record Counted (end : End Doc Op) (queue : List (Message Op)) (count : ℕ) : Type 0 where
    good : AreGood e end (queue ++ only_count count ∷ [])
    made : all_became e end (queue ++ only_count count ∷ []) ≡ all_became e end queue

  count_more : (end : End Doc Op) (queue : List (Message Op)) (count : ℕ)
      → AreGood e end queue → end.counted + length end.log ≡ count → Counted end queue count
  count_more end [] count good all =
      record { good = (count_of_all end count all, tt); made = refl }
  count_more end (told n first ∷ queue) count good all =
      let off = counted_off e end n in
      let rest = count_more (after_told e end n first) queue count good.1
      (ap (λ k. n + k) (as_many_behind e off.base off.log first)
      ∙ left_over end.counted n end.log good.0.counts.least good.0.counts.most ∙ all) in
      record {
        good = (good.0, rest.good);
        made = ap (λ more. became e end n first ∷ more) rest.made;
      }
  count_more end (only_count n ∷ queue) count good all =
      let rest = count_more (counted_off e end n) queue count good.1
      (left_over end.counted n end.log good.0.least good.0.most ∙ all) in
      record { good = (good.0, rest.good); made = rest.made }

  -- ---- an end behind whose log one more is read

  record Longer (end : End Doc Op) (queue : List (Message Op)) (op : Op) : Type 0 where
    good : AreGood e (with_more end (op ∷ [])) queue
    made : all_became e (with_more end (op ∷ [])) queue
        ≡ behind e (reached end) (all_became e end queue) op

  count_longer : (end : End Doc Op) (more : List Op) (count : ℕ) → IsCount e end count
      → IsCount e (with_more end more) count
  count_longer end more count good = record {
    least = good.least;
    most = let e = length-append end.log more in let most = good.most in omega arith;
  }

  good_more : (end : End Doc Op) (count : ℕ) (first op : Op) → IsOperation e end count first
      → Meet e (reached end) (became e end count first) op
      → IsOperation e (with_more end (op ∷ [])) count first
  good_more end count first op good meet =
      let off = counted_off e end count in
      let b = became e end count first in
      record {
        counts = count_longer end (op ∷ []) count good.counts;
        may =
            subst (λ front. e.may (all_done e end.base front) first)
            (sym (take-append-le (count - end.counted) end.log (op ∷ [])
            (within end.counted count (length end.log) good.counts.most)))
            good.may;
        meets = subst (λ f. Meets e f.base f.log first)
            (sym (off_more end (op ∷ []) count good.counts.most))
            (meets_join e off.base off.log (op ∷ []) first good.meets (
              subst (λ s. Meet e s op b) (sym (off_reaches end count))
                  (turn e (reached end) b op meet),
              tt,
            ));
      }

  lengthen : (end : End Doc Op) (queue : List (Message Op)) (op : Op) → AreGood e end queue
      → Meets e (reached end) (all_became e end queue) op → Longer end queue op
  lengthen end [] op good meets = record { good = tt; made = refl }
  lengthen end (told n first ∷ queue) op good meets =
      let one = reads end n first good.0 in
      let b = became e end n first in
      let s = reached end in
      let next = after_told e end n first in
      let a = e.crossed s op b in
      let longer = lengthen next queue a good.1
      (subst (λ t. Meets e t (all_became e next queue) a) (sym one.leads) meets.1) in
      let same = after_more end (op ∷ []) n first good.0.counts in
      record {
        good = (
          good_more end n first op good.0 meets.0,
          subst (λ f. AreGood e f queue) (sym same) longer.good,
        );
        made =
            ap (λ x. x ∷ all_became e (after_told e (with_more end (op ∷ [])) n first) queue)
            (became_more end (op ∷ []) n first good.0.counts)
            ∙ ap (λ f. e.crossed s b op ∷ all_became e f queue) same
            ∙ ap (λ more. e.crossed s b op ∷ more) longer.made
            ∙ ap (λ t. e.crossed s b op ∷ behind e t (all_became e next queue) a) one.leads;
      }
  lengthen end (only_count n ∷ queue) op good meets =
      let off = counted_off e end n in
      let leads = off_reaches end n in
      let longer = lengthen off queue op good.1
      (subst (λ t. Meets e t (all_became e off queue) op) (sym leads) meets) in
      let same = off_more end (op ∷ []) n good.0.most in
      record {
        good = (
          count_longer end (op ∷ []) n good.0,
          subst (λ f. AreGood e f queue) (sym same) longer.good,
        );
        made = ap (λ f. all_became e f queue) same ∙ longer.made
            ∙ ap (λ t. behind e t (all_became e off queue) op) leads;
      }

  -- ---- what an end does to a link

  record Half (common : Doc) (writer reader : End Doc Op) (unread : List Op) : Type 0 where
    log_may : AllMay e writer.base writer.log
    unread_may : AllMay e common unread

  half : (common : Doc) (writer reader : End Doc Op) (queue : List (Message Op))
      (unread : List Op) → IsOnTheWay e common writer reader queue unread
      → Half common writer reader unread
  half common writer reader queue unread way = record {
    log_may = may_front e writer.base writer.log unread way.may;
    unread_may =
        subst (λ s. AllMay e s unread) way.common_is
        (may_rest e writer.base writer.log unread way.may);
  }

  -- the side once its server has done an operation, and given just it to this link
  abbrev pub telling : Op → Side Doc Op → Side Doc Op
  telling op side = record {
    doc = e.done side.doc op;
    end = with_more side.end (op ∷ []);
    queue = side.queue ++ written side.end op ∷ [];
  }

  pub stays_told : (near far : Side Doc Op) (op : Op) → IsInFlight e near far
      → e.may near.doc op → IsInFlight e (telling op near) far
  stays_told near far op link may =
      let unread = link.near_unread in
      let here : e.may (all_done e link.common unread) op =
      subst (λ s. e.may s op) link.near_reached may in
      let read = ap (λ end. end.read) link.near_is in
      let more = write_more link.far_end near.queue near.end.read op link.forth.good
      (link.back.counts ∙ sym read) (subst
      (λ s. e.may (all_done e s (all_became e link.far_end near.queue)) op)
      (sym link.back.common_is)
      (subst (λ ops. e.may (all_done e link.common ops) op) link.forth.unread_is here)) in
      let w = link.near_end in
      let there = done_behind e w.base w.log unread
      ∙ ap (λ s. all_done e s unread) link.forth.common_is in
      record {
        common = link.common;
        near_end = link.near_end;
        far_end = link.far_end;
        near_unread = unread ++ op ∷ [];
        far_unread = link.far_unread;
        near_is = ap (λ end. with_more end (op ∷ [])) link.near_is
            ∙ with_more_of link.near_end unread (op ∷ []);
        far_is = link.far_is;
        near_reached = ap (λ s. e.done s op) link.near_reached
            ∙ sym (done_behind e link.common unread (op ∷ []));
        far_reached = link.far_reached;
        forth = record {
          common_is = link.forth.common_is;
          counts = link.forth.counts;
          may = subst (AllMay e w.base) (append_assoc w.log unread (op ∷ []))
              (may_join e w.base (w.log ++ unread) (op ∷ []) link.forth.may
              (subst (λ s. e.may s op) (sym there) here, tt));
          unread_is = ap (λ ops. ops ++ op ∷ []) link.forth.unread_is ∙ sym more.made;
          good = more.good;
        };
        back = link.back;
      }

  -- it has done these, and given each of them
  abbrev all_telling : List Op → Side Doc Op → Side Doc Op
  all_telling ops side = record {
    doc = all_done e side.doc ops;
    end = with_more side.end ops;
    queue = side.queue ++ map (written side.end) ops;
  }

  stays_all_told : (ops : List Op) (near far : Side Doc Op) → IsInFlight e near far
      → AllMay e near.doc ops → IsInFlight e (all_telling ops near) far
  stays_all_told [] near far link may =
      subst (λ side. IsInFlight e side far)
      (ap (λ log. record near { end = record near.end { log = log } })
      (sym (append-nil near.end.log))
      ∙ ap (λ queue. record near {
        end = record near.end { log = near.end.log ++ [] };
        queue = queue;
      }) (sym (append-nil near.queue))) link
  stays_all_told (op ∷ ops) near far link may =
      let rest = map (written near.end) ops in
      subst (λ side. IsInFlight e side far)
      (ap (λ log. record {
        doc = all_done e (e.done near.doc op) ops;
        end = record near.end { log = log };
        queue = (near.queue ++ written near.end op ∷ []) ++ rest;
      }) (append_assoc near.end.log (op ∷ []) ops)
      ∙ ap (λ queue. record {
        doc = all_done e (e.done near.doc op) ops;
        end = with_more near.end (op ∷ ops);
        queue = queue;
      }) (append_assoc near.queue (written near.end op ∷ []) rest))
      (stays_all_told ops (telling op near) far (stays_told near far op link may.0) may.1)

  -- it has done it, and given this link what it is passed on as
  abbrev pub changing : Op → Side Doc Op → Side Doc Op
  changing op side = record {
    doc = e.done side.doc op;
    end = with_more side.end (e.told_as op);
    queue = side.queue ++ map (written side.end) (e.told_as op);
  }

  pub stays_changing : (near far : Side Doc Op) (op : Op) → IsInFlight e near far
      → e.may near.doc op → IsInFlight e (changing op near) far
  stays_changing near far op link may =
      let whole = e.told_whole near.doc op may in
      subst (λ s. IsInFlight e (record {
        doc = s;
        end = with_more near.end (e.told_as op);
        queue = near.queue ++ map (written near.end) (e.told_as op);
      }) far) whole.same
      (stays_all_told (e.told_as op) near far link whole.may_all)

  -- it tells how many it has read
  abbrev pub counting : Side Doc Op → Side Doc Op
  counting side = record side { queue = side.queue ++ only_count side.end.read ∷ [] }

  pub stays_counting : (near far : Side Doc Op) → IsInFlight e near far
      → IsInFlight e (counting near) far
  stays_counting near far link =
      let more = count_more link.far_end near.queue near.end.read link.forth.good
      (link.back.counts ∙ sym (ap (λ end. end.read) link.near_is)) in
      record {
        common = link.common;
        near_end = link.near_end;
        far_end = link.far_end;
        near_unread = link.near_unread;
        far_unread = link.far_unread;
        near_is = link.near_is;
        far_is = link.far_is;
        near_reached = link.near_reached;
        far_reached = link.far_reached;
        forth = record {
          common_is = link.forth.common_is;
          counts = link.forth.counts;
          may = link.forth.may;
          unread_is = link.forth.unread_is ∙ sym more.made;
          good = more.good;
        };
        back = link.back;
      }

  -- the one side is the same, with these on their way from it
  abbrev pub writer_after : List (Message Op) → Side Doc Op → Side Doc Op
  writer_after queue side = record side { queue = queue }

  -- the other has read an operation
  abbrev pub reader_after : ℕ → Op → Side Doc Op → Side Doc Op
  reader_after count op side = record {
    doc = e.done side.doc (became e side.end count op);
    end = after_told e side.end count op;
    queue = side.queue;
  }

  pub record IsRead (near far : Side Doc Op) (count : ℕ) (op : Op) (queue : List (Message Op))
      : Type 0 where
    pub may : e.may far.doc (became e far.end count op)
    pub stays : IsInFlight e (writer_after queue near) (reader_after count op far)

  -- what comes first on its way to the far side, and what the diamond says of it there
  abbrev pub FarMeets : Side Doc Op → ℕ → Op → Type 0
  FarMeets far count op =
      Meets e (counted_off e far.end count).base (counted_off e far.end count).log op

  -- with no diamond it may be made where it then stands, and so may the log
  pub record AtReading (far : Side Doc Op) (count : ℕ) (op : Op) : Type 0 where
    pub may : e.may (counted_off e far.end count).base op
    pub log_may : AllMay e (counted_off e far.end count).base (counted_off e far.end count).log

  pub at_reading : (near far : Side Doc Op) (count : ℕ) (op : Op) (queue : List (Message Op))
      → near.queue ≡ told count op ∷ queue → IsInFlight e near far → AtReading far count op
  at_reading near far count op queue first link =
      let r = link.far_end in
      let more = link.far_unread in
      let good = subst (AreGood e r) first link.forth.good in
      record {
        may = subst (λ end. e.may (counted_off e end count).base op) (sym link.far_is)
            (subst (λ off. e.may off.base op) (sym (off_more r more count good.0.counts.most))
            good.0.may);
        log_may = subst
            (λ end. AllMay e (counted_off e end count).base (counted_off e end count).log)
            (sym link.far_is) (off_may (with_more r more) count link.back.may);
      }

  pub meets_far : HasDiamond e → (near far : Side Doc Op) (count : ℕ) (op : Op)
      (queue : List (Message Op)) → near.queue ≡ told count op ∷ queue → IsInFlight e near far
      → FarMeets far count op
  meets_far d near far count op queue first link =
      let off = counted_off e far.end count in
      let now = at_reading near far count op queue first link in
      meets_all e d off.base off.log op now.log_may now.may

  pub stays_read : (near far : Side Doc Op) (count : ℕ) (op : Op) (queue : List (Message Op))
      → near.queue ≡ told count op ∷ queue → FarMeets far count op → IsInFlight e near far
      → IsRead near far count op queue
  stays_read near far count op queue first meets link =
      let w = link.near_end in
      let r = link.far_end in
      let c = link.common in
      let beta = link.far_unread in
      let a = became e r count op in
      let r2 = after_told e r count op in
      let far_half = half c r w far.queue beta link.back in
      let good = subst (AreGood e r) first link.forth.good in
      let unread : link.near_unread ≡ a ∷ all_became e r2 queue =
      link.forth.unread_is ∙ ap (all_became e r) first in
      let off = counted_off e r count in
      let one = reads r count op good.0 in
      let a_may : e.may c a = subst (λ s. e.may s a) link.back.common_is one.became_may in
      let here : Meets e c beta a =
      subst (λ s. Meets e s beta a) (off_reaches r count ∙ link.back.common_is)
      (meets_rest e off.base off.log beta op
      (subst (λ f. Meets e f.base f.log op)
      (ap (λ end. counted_off e end count) link.far_is
      ∙ off_more r beta count good.0.counts.most) meets)) in
      let cross = crosses e c beta a a_may here in
      let b_is : became e far.end count op ≡ through e c a beta =
      ap (λ end. became e end count op) link.far_is ∙ became_more r beta count op good.0.counts
      ∙ ap (λ s. through e s a beta) link.back.common_is in
      let longer = lengthen w far.queue a link.back.good
      (subst (λ s. Meets e s (all_became e w far.queue) a) (sym link.forth.common_is)
      (subst (λ ops. Meets e c ops a) link.back.unread_is here)) in
      let leads = one.leads ∙ ap (λ s. e.done s a) link.back.common_is in
      let long = length-append w.log (a ∷ []) in
      let counts = link.forth.counts in
      record {
        may = subst (e.may far.doc) (sym b_is)
            (subst (λ s. e.may s (through e c a beta)) (sym link.far_reached) cross.through_may);
        stays = record {
          common = e.done c a;
          near_end = with_more w (a ∷ []);
          far_end = r2;
          near_unread = all_became e r2 queue;
          far_unread = behind e c beta a;
          near_is = link.near_is ∙ ap (with_more w) unread
              ∙ sym (with_more_of w (a ∷ []) (all_became e r2 queue));
          far_is = ap (λ end. after_told e end count op) link.far_is
              ∙ after_more r beta count op good.0.counts
              ∙ ap (λ s. with_more r2 (behind e s beta a)) link.back.common_is;
          near_reached = link.near_reached ∙ ap (all_done e c) unread;
          far_reached = ap (λ s. e.done s (became e far.end count op)) link.far_reached
              ∙ ap (e.done (all_done e c beta)) b_is ∙ sym cross.same;
          forth = record {
            common_is = done_behind e w.base w.log (a ∷ [])
                ∙ ap (λ s. e.done s a) link.forth.common_is;
            counts = omega arith;
            may = subst (AllMay e w.base)
                (sym (append_assoc w.log (a ∷ []) (all_became e r2 queue)))
                (subst (λ ops. AllMay e w.base (w.log ++ ops)) unread link.forth.may);
            unread_is = refl;
            good = good.1;
          };
          back = record {
            common_is = leads;
            counts = one.counts ∙ link.back.counts;
            may = may_join e r2.base r2.log (behind e c beta a) one.log_may
                (subst (λ s. AllMay e s (behind e c beta a)) (sym leads) cross.behind_may);
            unread_is = ap (λ ops. behind e c ops a) link.back.unread_is
                ∙ ap (λ s. behind e s (all_became e w far.queue) a) (sym link.forth.common_is)
                ∙ sym longer.made;
            good = longer.good;
          };
        };
      }

  -- the other has read a count alone
  abbrev pub counter_after : ℕ → Side Doc Op → Side Doc Op
  counter_after count side = record side { end = counted_off e side.end count }

  pub stays_counted : (near far : Side Doc Op) (count : ℕ) (queue : List (Message Op))
      → near.queue ≡ only_count count ∷ queue → IsInFlight e near far
      → IsInFlight e (writer_after queue near) (counter_after count far)
  stays_counted near far count queue first link =
      let r = link.far_end in
      let off = counted_off e r count in
      let good = subst (AreGood e r) first link.forth.good in
      let leads = off_reaches r count in
      let far_half = half link.common r link.near_end far.queue link.far_unread link.back in
      record {
        common = link.common;
        near_end = link.near_end;
        far_end = off;
        near_unread = link.near_unread;
        far_unread = link.far_unread;
        near_is = link.near_is;
        far_is = ap (λ end. counted_off e end count) link.far_is
            ∙ off_more r link.far_unread count good.0.most;
        near_reached = link.near_reached;
        far_reached = link.far_reached;
        forth = record {
          common_is = link.forth.common_is;
          counts = link.forth.counts;
          may = link.forth.may;
          unread_is = link.forth.unread_is ∙ ap (all_became e r) first;
          good = good.1;
        };
        back = record {
          common_is = leads ∙ link.back.common_is;
          counts = left_over r.counted count r.log good.0.least good.0.most ∙ link.back.counts;
          may = may_join e off.base off.log link.far_unread (off_may r count far_half.log_may)
              (subst (λ s. AllMay e s link.far_unread) (sym (leads ∙ link.back.common_is))
              far_half.unread_may);
          unread_is = link.back.unread_is;
          good = link.back.good;
        };
      }

  -- ---- a link seen from its other end, begun, and at rest

  pub turned : (near far : Side Doc Op) → IsInFlight e near far → IsInFlight e far near
  turned near far link = record {
    common = link.common;
    near_end = link.far_end;
    far_end = link.near_end;
    near_unread = link.far_unread;
    far_unread = link.near_unread;
    near_is = link.far_is;
    far_is = link.near_is;
    near_reached = link.far_reached;
    far_reached = link.near_reached;
    forth = link.back;
    back = link.forth;
  }

  record Begins (s : Doc) (n : ℕ) (ops : List Op) : Type 0 where
    all : ops ≡ all_became e (record { base = s; log = []; counted = 0; read = n }) (sent e ops)
    good : AreGood e (record { base = s; log = []; counted = 0; read = n }) (sent e ops)

  begins : (s : Doc) (n : ℕ) (ops : List Op) → AllMay e s ops → Begins s n ops
  begins s n [] may = record { all = refl; good = tt }
  begins s n (op ∷ ops) may =
      let rest = begins (e.done s op) (suc n) ops may.1 in
      record {
        all = ap (λ more. op ∷ more) rest.all;
        good = (
          record {
            counts = record { least = omega arith; most = omega arith };
            may = may.0;
            meets = tt;
          },
          rest.good,
        );
      }

  -- one side of a link that begins
  abbrev pub begun_side : Doc → List Op → Side Doc Op
  begun_side s ops = record { doc = s; end = begun e ops; queue = sent e ops }

  pub starts : (s t : Doc) (here there : List Op) → Makes e here s → Makes e there t
      → IsInFlight e (begun_side s here) (begun_side t there)
  starts s t here there near far =
      let one = begins e.blank 0 here near.may in
      let other = begins e.blank 0 there far.may in
      record {
        common = e.blank;
        near_end = begun e [];
        far_end = begun e [];
        near_unread = here;
        far_unread = there;
        near_is = refl;
        far_is = refl;
        near_reached = sym near.made;
        far_reached = sym far.made;
        forth = record {
          common_is = refl;
          counts = refl;
          may = near.may;
          unread_is = one.all;
          good = one.good;
        };
        back = record {
          common_is = refl;
          counts = refl;
          may = far.may;
          unread_is = other.all;
          good = other.good;
        };
      }

  none_became : (end : End Doc Op) (queue : List (Message Op)) → AreCounts queue
      → all_became e end queue ≡ []
  none_became end [] counts = refl
  none_became end (told count op ∷ queue) counts = absurd counts
  none_became end (only_count count ∷ queue) counts =
      none_became (counted_off e end count) queue counts

  pub rests : (near far : Side Doc Op) → IsInFlight e near far → AreCounts near.queue
      → AreCounts far.queue → near.doc ≡ far.doc
  rests near far link here there =
      link.near_reached
      ∙ ap (all_done e link.common)
      (link.forth.unread_is ∙ none_became link.far_end near.queue here)
      ∙ sym (link.far_reached
      ∙ ap (all_done e link.common)
      (link.back.unread_is ∙ none_became link.near_end far.queue there))

  -- what the near side would write now would be read as it is
  pub uncrossed : (near far : Side Doc Op) (op : Op) → IsInFlight e near far
      → AreCounts far.queue → became e far.end near.end.read op ≡ op
  uncrossed near far op link there =
      let r = link.far_end in
      let n = near.end.read in
      let none = link.back.unread_is ∙ none_became link.near_end far.queue there in
      let all = link.back.counts ∙ sym (ap (λ end. end.read) link.near_is) in
      ap (λ end. became e end n op) (link.far_is ∙ ap (with_more r) none)
      ∙ became_more r [] n op (count_of_all r n all)
      ∙ ap (through e (counted_off e r n).base op) (none_stays r n all)
