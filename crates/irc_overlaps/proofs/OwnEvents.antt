-- Each server is what its own events make of it; its clients are told what it puts out for them.
use Rattle.std.proofs.Common.{◌≡◌, ◌≢◌, ℕ, true, false, nat_eq, if◌then◌else◌, Option, Some}
use Rattle.std.proofs.Common.{None, List, [], ◌∷◌, ◌++◌, inl, inr, append-nil, refl, sym, ap, subst}
use Rattle.std.proofs.Common.{◌∙◌}
use Rattle.std.specs.List.{cons_option, filter_map}
use Rattle.std.proofs.lemmas.Bool.Decides.{eqb_tells}
use Rattle.std.proofs.lemmas.List.{append_assoc}
use Rattle.std.proofs.lemmas.List.Elements.{filter_map-append}
use Rattle.irc_batch.specs.Batches.{Sent, line_to, end_of, line_on, end_of_link}
use Rattle.irc_relay.specs.Links.{Name}
use Rattle.irc_relay.specs.Lemmas.TellingNames.{alike, unlike, tell, same_when}
use Rattle.irc_relay.specs.Lemmas.TellingNames.{same_unless}
use Rattle.irc_server.specs.declared.event.Event.{Event}
use Rattle.irc_layer.specs.Layers.{LayerView}
use Rattle.irc_overlaps.specs.Networks.{Net, Told, received, ended, Closing, all_sent_out}
use Rattle.irc_overlaps.specs.Networks.{far_end, sent_out, telling, with_layer}
use Rattle.irc_overlaps.specs.Steps.{Happens, HasHandled, IsGiven}
use Rattle.irc_overlaps.specs.Steps.{Step, given, delivered, made, lost}
use Rattle.irc_overlaps.specs.Steps.{no_step, one_step}
use Rattle.irc_overlaps.specs.Laws.{EachGoesByItsOwn, GoesByItsOwn, HasHandledAll, closed_by}
use Rattle.irc_overlaps.specs.Laws.{closes, told_by}
use Rattle.irc_overlaps.specs.Laws.{no_event, one_event}
use Rattle.irc_overlaps.proofs.AtEnds.{at_it, at_other, at_end, with_at-it, with_at-other}
use Rattle.irc_overlaps.proofs.PutOut.{all_layers, sending_closings, sending_told}

-- ---- what it puts out for its clients

is_one : (a b : ℕ) → a ≡ b → nat_eq a b ≡ true
is_one a b e = elim (eqb_tells a b) [ inl p ↦ p.0 | inr p ↦ absurd (p.1 e) ]

is_other : (a b : ℕ) → a ≢ b → nat_eq a b ≡ false
is_other a b n = elim (eqb_tells a b) [ inl p ↦ absurd (n p.1) | inr p ↦ p.0 ]

telling_told : (s : Name) (other : ℕ) (one : Told) (net : Net) (conn : ℕ)
    → (telling s other one net).told s conn ≡ net.told s conn
    ++ cons_option (if nat_eq conn other then Some one else None) []
telling_told s other one net conn = elim (at_end s other s conn) [
  | at_it b e f ↦ with_at-it s other (net.told s other ++ one ∷ []) net.told s conn e f
      ∙ ap (λ k. net.told s k ++ one ∷ []) (sym f)
      ∙ ap (λ b. net.told s conn ++ cons_option (if b then Some one else None) [])
      (sym (is_one conn other f))
  | at_other b o ↦ with_at-other s other (net.told s other ++ one ∷ []) net.told s conn o
      ∙ sym (append-nil (net.told s conn))
      ∙ ap (λ b. net.told s conn ++ cons_option (if b then Some one else None) [])
      (sym (is_other conn other (λ f. o refl f)))
]

told_one : (s : Name) (sent : Sent) (net : Net) (conn : ℕ)
    → (sent_out s sent net).told s conn ≡ net.told s conn ++ cons_option (told_by conn sent) []
told_one s (line_to other line) net conn = telling_told s other (received line) net conn
told_one s (end_of other) net conn = telling_told s other ended net conn
told_one s (line_on n line) net conn =
    ap (λ told. told s conn) (sending_told (far_end net s n) line net)
    ∙ sym (append-nil (net.told s conn))
told_one s (end_of_link n reason) net conn = sym (append-nil (net.told s conn))

in_front : {X : Type 0} (one : Option X) (more : List X)
    → cons_option one [] ++ more ≡ cons_option one more
in_front None more = refl
in_front (Some x) more = refl

told_all : (s : Name) (outs : List Sent) (net : Net) (conn : ℕ)
    → (all_sent_out s outs net).told s conn ≡ net.told s conn ++ filter_map (told_by conn) outs
told_all s [] net conn = sym (append-nil (net.told s conn))
told_all s (sent ∷ outs) net conn =
    told_all s outs (sent_out s sent net) conn
    ∙ ap (λ v. v ++ filter_map (told_by conn) outs) (told_one s sent net conn)
    ∙ append_assoc (net.told s conn) (cons_option (told_by conn sent) [])
    (filter_map (told_by conn) outs)
    ∙ ap (λ v. net.told s conn ++ v) (in_front (told_by conn sent) (filter_map (told_by conn) outs))

-- others' clients are told nothing by it
told_elsewhere : (s x : Name) → x ≢ s → (sent : Sent) (net : Net) (conn : ℕ)
    → (sent_out s sent net).told x conn ≡ net.told x conn
told_elsewhere s x m (line_to other line) net conn =
    with_at-other s other (net.told s other ++ received line ∷ []) net.told x conn (λ e f. m e)
told_elsewhere s x m (end_of other) net conn =
    with_at-other s other (net.told s other ++ ended ∷ []) net.told x conn (λ e f. m e)
told_elsewhere s x m (line_on n line) net conn =
    ap (λ told. told x conn) (sending_told (far_end net s n) line net)
told_elsewhere s x m (end_of_link n reason) net conn = refl

all_elsewhere : (s x : Name) → x ≢ s → (outs : List Sent) (net : Net) (conn : ℕ)
    → (all_sent_out s outs net).told x conn ≡ net.told x conn
all_elsewhere s x m [] net conn = refl
all_elsewhere s x m (sent ∷ outs) net conn =
    all_elsewhere s x m outs (sent_out s sent net) conn ∙ told_elsewhere s x m sent net conn

-- ---- what it closes

closings_one : (s : Name) (sent : Sent) (net : Net)
    → filter_map (closed_by s) (sent_out s sent net).closings
    ≡ filter_map (closed_by s) net.closings ++ cons_option (closes sent) []
closings_one s (line_to other line) net = sym (append-nil (filter_map (closed_by s) net.closings))
closings_one s (end_of other) net = sym (append-nil (filter_map (closed_by s) net.closings))
closings_one s (line_on n line) net =
    ap (filter_map (closed_by s)) (sending_closings (far_end net s n) line net)
    ∙ sym (append-nil (filter_map (closed_by s) net.closings))
closings_one s (end_of_link n reason) net =
    filter_map-append (closed_by s) net.closings (one ∷ [])
    ∙ ap (λ b. filter_map (closed_by s) net.closings
    ++ cons_option (if b then Some (n, reason) else None) []) (same_when s s refl)
  where
    one : Closing
    one = record { server = s; link = n; far = net.other s n; reason = reason }

closings_all : (s : Name) (outs : List Sent) (net : Net)
    → filter_map (closed_by s) (all_sent_out s outs net).closings
    ≡ filter_map (closed_by s) net.closings ++ filter_map closes outs
closings_all s [] net = sym (append-nil (filter_map (closed_by s) net.closings))
closings_all s (sent ∷ outs) net =
    closings_all s outs (sent_out s sent net)
    ∙ ap (λ v. v ++ filter_map closes outs) (closings_one s sent net)
    ∙ append_assoc (filter_map (closed_by s) net.closings) (cons_option (closes sent) [])
    (filter_map closes outs)
    ∙ ap (λ v. filter_map (closed_by s) net.closings ++ v)
    (in_front (closes sent) (filter_map closes outs))

-- another closes nothing by it
closings_other : (s x : Name) → x ≢ s → (sent : Sent) (net : Net)
    → filter_map (closed_by x) (sent_out s sent net).closings
    ≡ filter_map (closed_by x) net.closings
closings_other s x m (line_to other line) net = refl
closings_other s x m (end_of other) net = refl
closings_other s x m (line_on n line) net =
    ap (filter_map (closed_by x)) (sending_closings (far_end net s n) line net)
closings_other s x m (end_of_link n reason) net =
    filter_map-append (closed_by x) net.closings (one ∷ [])
    ∙ ap (λ b. filter_map (closed_by x) net.closings
    ++ cons_option (if b then Some (n, reason) else None) []) (same_unless s x (λ e. m (sym e)))
    ∙ append-nil (filter_map (closed_by x) net.closings)
  where
    one : Closing
    one = record { server = s; link = n; far = net.other s n; reason = reason }

closings_elsewhere : (s x : Name) → x ≢ s → (outs : List Sent) (net : Net)
    → filter_map (closed_by x) (all_sent_out s outs net).closings
    ≡ filter_map (closed_by x) net.closings
closings_elsewhere s x m [] net = refl
closings_elsewhere s x m (sent ∷ outs) net =
    closings_elsewhere s x m outs (sent_out s sent net) ∙ closings_other s x m sent net

-- ---- events in turn

handled_both : (old between new : LayerView) (events more : List Event) (outs others : List Sent)
    → HasHandledAll old events outs between → HasHandledAll between more others new
    → HasHandledAll old (events ++ more) (outs ++ others) new
handled_both old between new [] more outs others no_event h = h
handled_both old between new (event ∷ events) more outs others
    (one_event {between = b} {first = f} {more = r} a rest e) h =
    one_event a (handled_both b between new events more r others rest h)
    (ap (λ v. v ++ others) e ∙ append_assoc f r others)

own_both : (x : Name) (old between new : Net) → GoesByItsOwn x old between
    → GoesByItsOwn x between new → GoesByItsOwn x old new
own_both x old between new a b = record {
  events = a.events ++ b.events;
  outs = a.outs ++ b.outs;
  handled = handled_both (old.layer x) (between.layer x) (new.layer x) a.events b.events a.outs
      b.outs a.handled b.handled;
  told = λ conn. b.told conn ∙ ap (λ v. v ++ filter_map (told_by conn) b.outs) (a.told conn)
      ∙ append_assoc (old.told x conn) (filter_map (told_by conn) a.outs)
      (filter_map (told_by conn) b.outs)
      ∙ ap (λ v. old.told x conn ++ v) (sym (filter_map-append (told_by conn) a.outs b.outs));
  closings = b.closings ∙ ap (λ v. v ++ filter_map closes b.outs) a.closings
      ∙ append_assoc (filter_map (closed_by x) old.closings) (filter_map closes a.outs)
      (filter_map closes b.outs)
      ∙ ap (λ v. filter_map (closed_by x) old.closings ++ v)
      (sym (filter_map-append closes a.outs b.outs));
}

own_none : (x : Name) (old new : Net) → new.layer x ≡ old.layer x
    → ((conn : ℕ) → new.told x conn ≡ old.told x conn)
    → filter_map (closed_by x) new.closings ≡ filter_map (closed_by x) old.closings
    → GoesByItsOwn x old new
own_none x old new layer told closings = record {
  events = [];
  outs = [];
  handled = subst (λ v. HasHandledAll (old.layer x) [] [] v) (sym layer) no_event;
  told = λ conn. told conn ∙ sym (append-nil (old.told x conn));
  closings = closings ∙ sym (append-nil (filter_map (closed_by x) old.closings));
}

-- ---- the steps

module _ (s : Name) (event : Event) (old new : Net) (g : IsGiven s event old new) where
  abbrev taken : Net
  taken = with_layer s g.layer old

  layer_is : (x : Name) → new.layer x ≡ taken.layer x
  layer_is x =
      ap (λ (net : Net). net.layer x) g.new_is ∙ ap (λ layer. layer x) (all_layers s g.outs taken)

  own_here : GoesByItsOwn s old new
  own_here = record {
    events = event ∷ [];
    outs = g.outs;
    handled = one_event
        (subst (λ v. HasHandled (old.layer s) event g.outs v)
        (sym (layer_is s ∙ ap (λ b. if b then g.layer else old.layer s) (same_when s s refl)))
        g.handled) no_event (sym (append-nil g.outs));
    told = λ conn. ap (λ (net : Net). net.told s conn) g.new_is ∙ told_all s g.outs taken conn;
    closings = ap (λ (net : Net). filter_map (closed_by s) net.closings) g.new_is
        ∙ closings_all s g.outs taken;
  }

  own_elsewhere : (x : Name) → x ≢ s → GoesByItsOwn x old new
  own_elsewhere x m = own_none x old new
      (layer_is x ∙ ap (λ b. if b then g.layer else old.layer x) (same_unless x s m))
      (λ conn. ap (λ (net : Net). net.told x conn) g.new_is ∙ all_elsewhere s x m g.outs taken conn)
      (ap (λ (net : Net). filter_map (closed_by x) net.closings) g.new_is
      ∙ closings_elsewhere s x m g.outs taken)

  given_own : (x : Name) → GoesByItsOwn x old new
  given_own x = elim (tell x s) [
    | alike _ e ↦ subst (λ v. GoesByItsOwn v old new) (sym e) own_here
    | unlike _ m ↦ own_elsewhere x m
  ]

-- what changes no layer and tells nobody
own_from : (x : Name) (old between new : Net) → between.layer x ≡ old.layer x
    → ((conn : ℕ) → between.told x conn ≡ old.told x conn) → between.closings ≡ old.closings
    → GoesByItsOwn x between new → GoesByItsOwn x old new
own_from x old between new layer told closings rest =
    own_both x old between new
    (own_none x old between layer told (ap (filter_map (closed_by x)) closings)) rest

step_own : (step : Step) (old new : Net) → Happens step old new → (x : Name)
    → GoesByItsOwn x old new
step_own (given s event) old new d x = given_own s event old new d.is_given x
step_own (delivered s n) old new d x =
    own_from x old _ new refl (λ conn. refl) refl (given_own s _ _ new d.is_given x)
step_own (made s n t m) old new d x = own_from x old _ new refl (λ conn. refl) refl
    (own_both x _ d.between new (given_own s _ _ d.between d.near_given x)
    (given_own t _ d.between new d.far_given x))
step_own (lost s n) old new d x =
    own_from x old _ new refl (λ conn. refl) refl (given_own s _ _ new d.is_given x)

pub each_goes_by_its_own : EachGoesByItsOwn
each_goes_by_its_own [] old new no_step x = own_none x old new refl (λ conn. refl) refl
each_goes_by_its_own (step ∷ steps) old new (one_step {between} h rest) x =
    own_both x old between new (step_own step old between h x)
    (each_goes_by_its_own steps between new rest x)
