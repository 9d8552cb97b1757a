-- What is done at a server leaves the others as they were.
use Rattle.std.proofs.Common.{◌≡◌, ℕ, Some, None, List, [], ◌∷◌, ◌++◌}
use Rattle.std.proofs.Common.{append-nil, if◌then◌else◌, refl, sym, ap, subst, ◌∙◌}
use Rattle.std.proofs.lemmas.List.{append_assoc}
use Rattle.irc_batch.specs.Batches.{Sent, line_to, end_of, line_on, end_of_link}
use Rattle.irc_batch.specs.declared.close_reason.CloseReason.{CloseReason}
use Rattle.irc_relay.specs.Links.{Name}
use Rattle.irc_relay.specs.Lemmas.TellingNames.{same_unless}
use Rattle.irc_server.specs.declared.event.Event.{Event}
use Rattle.irc_layer.specs.Layers.{LayerView}
use Rattle.irc_overlaps.specs.Networks.{Net, end_at, AreOneLink, Closing, Told, all_sent_out}
use Rattle.irc_overlaps.specs.Networks.{closing, far_end, sending, sent_out, telling, with_at}
use Rattle.irc_overlaps.specs.Networks.{with_coming, with_layer}
use Rattle.irc_overlaps.specs.Rest.{IsSound}
use Rattle.irc_overlaps.specs.Steps.{IsGiven}
use Rattle.irc_overlaps.specs.Laws.{AreBy, DeliveryTakesFirst, GivenIsOfOne, HasClosed, IsBehind}
use Rattle.irc_overlaps.specs.Laws.{IsLeft, is_there, is_closed, LeavesOthers}
use Rattle.irc_overlaps.specs.Laws.{NoneIsDelivered}
use Rattle.irc_overlaps.proofs.AtEnds.{AtEnd, at_it, at_other, at_end, with_at-it, with_at-other}
use Rattle.irc_overlaps.proofs.AtEnds.{reaches, reaches_none, reaching}
use Rattle.irc_overlaps.proofs.SoundEnds.{far_apart, fewer_sound}
use Rattle.irc_overlaps.proofs.SoundSteps.{one_sound}

-- ---- done at a server: the others are left, its own ends too, and one that is gone does not come
-- back

record IsDoneAt (s : Name) (old new : Net) : Type 0 where
  leaves : LeavesOthers s old new
  own : (n : ℕ) → IsLeft s n (old.coming s n) new
  closed : (n : ℕ) → old.other s n ≡ None → new.other s n ≡ None

none_closed : (s : Name) (closings : List Closing) → HasClosed s closings closings
none_closed s closings = record { more = []; by_it = tt; new_is = sym (append-nil closings) }

none_behind : (lines : List (List ℕ)) → IsBehind lines lines
none_behind lines = record { more = []; new_is = sym (append-nil lines) }

by_all : (s : Name) (a b : List Closing) → AreBy s a → AreBy s b → AreBy s (a ++ b)
by_all s [] b p q = q
by_all s (one ∷ a) b p q = (p.0, by_all s a b p.1 q)

both_closed : (s : Name) (a b c : List Closing) → HasClosed s a b → HasClosed s b c
    → HasClosed s a c
both_closed s a b c p q = record {
  more = p.more ++ q.more;
  by_it = by_all s p.more q.more p.by_it q.by_it;
  new_is = q.new_is ∙ ap (λ v. v ++ q.more) p.new_is ∙ append_assoc a p.more q.more;
}

both_behind : (a b c : List (List ℕ)) → IsBehind a b → IsBehind b c → IsBehind a c
both_behind a b c p q = record {
  more = p.more ++ q.more;
  new_is = q.new_is ∙ ap (λ v. v ++ q.more) p.new_is ∙ append_assoc a p.more q.more;
}

leaves_both : (s : Name) (old between new : Net) → LeavesOthers s old between
    → LeavesOthers s between new → LeavesOthers s old new
leaves_both s old between new a b = record {
  layers = λ x m. b.layers x m ∙ a.layers x m;
  told = λ x conn m. b.told x conn m ∙ a.told x conn m;
  others = λ x k m. b.others x k m ∙ a.others x k m;
  coming = λ x k m. both_behind (old.coming x k) (between.coming x k) (new.coming x k)
      (a.coming x k m) (b.coming x k m);
  elsewhere = λ x k m o. b.elsewhere x k m (λ n e. o n (sym (a.others x k m) ∙ e))
      ∙ a.elsewhere x k m o;
  closings = both_closed s old.closings between.closings new.closings a.closings b.closings;
}

own_both : (s : Name) (old between new : Net) (n : ℕ) → IsDoneAt s between new
    → IsLeft s n (old.coming s n) between → IsLeft s n (old.coming s n) new
own_both s old between new n d (is_there e) =
    subst (λ lines. IsLeft s n lines new) e (d.own n)
own_both s old between new n d (is_closed e) = is_closed (d.closed n e)

done_both : (s : Name) (old between new : Net) → IsDoneAt s old between → IsDoneAt s between new
    → IsDoneAt s old new
done_both s old between new a b = record {
  leaves = leaves_both s old between new a.leaves b.leaves;
  own = λ n. own_both s old between new n b (a.own n);
  closed = λ n e. b.closed n (a.closed n e);
}

-- ---- one by one

done_none : (s : Name) (net : Net) → IsDoneAt s net net
done_none s net = record {
  leaves = record {
    layers = λ x m. refl;
    told = λ x conn m. refl;
    others = λ x k m. refl;
    coming = λ x k m. none_behind (net.coming x k);
    elsewhere = λ x k m o. refl;
    closings = none_closed s net.closings;
  };
  own = λ n. is_there refl;
  closed = λ n e. e;
}

layer_done : (s : Name) (layer : LayerView) (net : Net) → IsDoneAt s net (with_layer s layer net)
layer_done s layer net = record {
  leaves = record {
    layers = λ x m. ap (λ b. if b then layer else net.layer x) (same_unless x s m);
    told = λ x conn m. refl;
    others = λ x k m. refl;
    coming = λ x k m. none_behind (net.coming x k);
    elsewhere = λ x k m o. refl;
    closings = none_closed s net.closings;
  };
  own = λ n. is_there refl;
  closed = λ n e. e;
}

told_done : (s : Name) (conn : ℕ) (one : Told) (net : Net) → IsDoneAt s net (telling s conn one net)
told_done s conn one net = record {
  leaves = record {
    layers = λ x m. refl;
    told = λ x k m. with_at-other s conn (net.told s conn ++ one ∷ []) net.told x k (λ e f. m e);
    others = λ x k m. refl;
    coming = λ x k m. none_behind (net.coming x k);
    elsewhere = λ x k m o. refl;
    closings = none_closed s net.closings;
  };
  own = λ n. is_there refl;
  closed = λ n e. e;
}

-- a line behind those on their way to the other end
module _ (s : Name) (n : ℕ) (line : List ℕ) (net : Net) (sound : IsSound net) (t : Name) (m : ℕ)
    (whole : AreOneLink net.other s n t m)
  where
    abbrev lines : List (List ℕ)
    lines = net.coming t m ++ line ∷ []

    behind : (x : Name) (k : ℕ) → AtEnd t m x k
        → IsBehind (net.coming x k) (with_at t m lines net.coming x k)
    behind x k (at_it b e f) = record {
      more = line ∷ [];
      new_is = with_at-it t m lines net.coming x k e f
          ∙ ap (λ v. net.coming v m ++ line ∷ []) (sym e)
          ∙ ap (λ v. net.coming x v ++ line ∷ []) (sym f);
    }
    behind x k (at_other b o) = record {
      more = [];
      new_is = with_at-other t m lines net.coming x k o ∙ sym (append-nil (net.coming x k));
    }

    line_done : IsDoneAt s net (sending (Some (end_at t m)) line net)
    line_done = record {
      leaves = record {
        layers = λ x l. refl;
        told = λ x conn l. refl;
        others = λ x k l. refl;
        coming = λ x k l. behind x k (at_end t m x k);
        elsewhere = λ x k l o. with_at-other t m lines net.coming x k
            (λ e f. o n (ap (λ v. net.other v k) e ∙ ap (net.other t) f ∙ whole.back));
        closings = none_closed s net.closings;
      };
      own = λ k. is_there (with_at-other t m lines net.coming s k
          (λ e f. far_apart net sound s t n m whole e));
      closed = λ k e. e;
    }

sent_done : (s : Name) (n : ℕ) (line : List ℕ) (net : Net) → IsSound net
    → IsDoneAt s net (sending (far_end net s n) line net)
sent_done s n line net sound = elim (reaching net s n) [
  | reaches t m e whole ↦ subst (λ far. IsDoneAt s net (sending far line net)) (sym e)
      (line_done s n line net sound t m whole)
  | reaches_none e _ ↦ subst (λ far. IsDoneAt s net (sending far line net)) (sym e)
      (done_none s net)
]

-- an end that is closed
own_left : (s : Name) (n : ℕ) (net new : Net) → new.other ≡ with_at s n None net.other
    → new.coming ≡ with_at s n [] net.coming → (k : ℕ) → IsLeft s k (net.coming s k) new
own_left s n net new e f k = elim (at_end s n s k) [
  | at_it _ g h ↦ is_closed (ap (λ other. other s k) e ∙ with_at-it s n None net.other s k g h)
  | at_other _ o ↦ is_there (ap (λ coming. coming s k) f
      ∙ with_at-other s n [] net.coming s k o)
]

closed_left : (s : Name) (n : ℕ) (net : Net) (k : ℕ) → net.other s k ≡ None
    → with_at s n None net.other s k ≡ None
closed_left s n net k e = elim (at_end s n s k) [
  | at_it _ g h ↦ with_at-it s n None net.other s k g h
  | at_other _ o ↦ with_at-other s n None net.other s k o ∙ e
]

closing_done : (s : Name) (n : ℕ) (reason : CloseReason) (net : Net)
    → IsDoneAt s net (closing s n reason net)
closing_done s n reason net = record {
  leaves = record {
    layers = λ x m. refl;
    told = λ x conn m. refl;
    others = λ x k m. with_at-other s n None net.other x k (λ e f. m e);
    coming = λ x k m. record {
      more = [];
      new_is = with_at-other s n [] net.coming x k (λ e f. m e) ∙ sym (append-nil (net.coming x k));
    };
    elsewhere = λ x k m o. with_at-other s n [] net.coming x k (λ e f. m e);
    closings = record {
      more = record { server = s; link = n; far = net.other s n; reason = reason } ∷ [];
      by_it = (refl, tt);
      new_is = refl;
    };
  };
  own = own_left s n net (closing s n reason net) refl refl;
  closed = closed_left s n net;
}

-- ---- all of it

one_done : (s : Name) (sent : Sent) (net : Net) → IsSound net
    → IsDoneAt s net (sent_out s sent net)
one_done s (line_to conn line) net sound = told_done s conn _ net
one_done s (end_of conn) net sound = told_done s conn _ net
one_done s (line_on n line) net sound = sent_done s n line net sound
one_done s (end_of_link n reason) net sound = closing_done s n reason net

all_done : (s : Name) (outs : List Sent) (net : Net) → IsSound net
    → IsDoneAt s net (all_sent_out s outs net)
all_done s [] net sound = done_none s net
all_done s (sent ∷ outs) net sound =
    done_both s net (sent_out s sent net) (all_sent_out s outs (sent_out s sent net))
    (one_done s sent net sound)
    (all_done s outs (sent_out s sent net) (one_sound s sent net sound))

given_done : (s : Name) (event : Event) (old new : Net) → IsSound old → IsGiven s event old new
    → IsDoneAt s old new
given_done s event old new sound g = subst (IsDoneAt s old) (sym g.new_is)
    (done_both s old (with_layer s g.layer old)
    (all_sent_out s g.outs (with_layer s g.layer old)) (layer_done s g.layer old)
    (all_done s g.outs (with_layer s g.layer old) sound))

-- ---- the laws

pub given_is_of_one : GivenIsOfOne
given_is_of_one s event old new sound g =
    let done = given_done s event old new sound g.is_given in
    record { leaves = done.leaves; own = done.own }

first_left : (s : Name) (n : ℕ) (more : List (List ℕ)) (net : Net)
    → LeavesOthers s net (with_coming s n more net)
first_left s n more net = record {
  layers = λ x m. refl;
  told = λ x conn m. refl;
  others = λ x k m. refl;
  coming = λ x k m. record {
    more = [];
    new_is = with_at-other s n more net.coming x k (λ e f. m e) ∙ sym (append-nil (net.coming x k));
  };
  elsewhere = λ x k m o. with_at-other s n more net.coming x k (λ e f. m e);
  closings = none_closed s net.closings;
}

pub delivery_takes_first : DeliveryTakesFirst
delivery_takes_first s n old new sound d = record {
  line = d.line;
  more = d.more;
  on_its_way = d.on_its_way;
  first = subst (λ lines. IsLeft s n lines new)
      (with_at-it s n d.more old.coming s n refl refl) (done.own n);
  own = λ k m. subst (λ lines. IsLeft s k lines new)
      (with_at-other s n d.more old.coming s k (λ e f. m f)) (done.own k);
  leaves = leaves_both s old taken new (first_left s n d.more old) done.leaves;
}
  where
    taken : Net
    taken = with_coming s n d.more old

    done : IsDoneAt s taken new
    done = given_done s _ taken new (fewer_sound old sound s n d.line d.more d.on_its_way)
        d.is_given

pub none_is_delivered : NoneIsDelivered
none_is_delivered s t n old new quiet joined d =
    let never = sym d.on_its_way ∙ (quiet t joined n).no_line in cc
