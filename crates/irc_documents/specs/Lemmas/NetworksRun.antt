-- A network stays sound, whatever happens.
use Rattle.std.proofs.Common.{◌≡◌, ◌≢◌, ℕ, Bool, true, false, not, ◌&&◌, if◌then◌else◌}
use Rattle.std.proofs.Common.{List, [], ◌∷◌, ◌++◌, map, inl, inr, refl, sym, ap, subst, ◌∙◌}
use Rattle.std.proofs.lemmas.Bool.{and_right, and_left}
use Rattle.irc_relay.specs.Links.{Name, same, Link, AreLinked, IsForest, IsWalk}
use Rattle.irc_relay.specs.Links.{part, linked, links_without, has_ends, way}
use Rattle.irc_relay.specs.Laws.{TheWayIsAWalk}
use Rattle.irc_relay.specs.Lemmas.TellingNames.{Telling, alike, unlike, tell, same_when}
use Rattle.irc_relay.specs.Lemmas.TellingNames.{same_unless}
use Rattle.irc_relay.specs.Lemmas.NextHops.{linked_joined, linked_other, linked_back}
use Rattle.irc_relay.specs.Lemmas.LinkTakenOut.{linked_tells, taken_out}
use Rattle.irc_documents.specs.Editing.{Editing, HasDiamond}
use Rattle.irc_documents.specs.Ends.{Message, told, only_count, with_more, written, became}
use Rattle.irc_documents.specs.Ends.{after_message}
use Rattle.irc_documents.specs.Flight.{Side, IsInFlight}
use Rattle.irc_documents.specs.Networks.{Net, Step, given, counts_to, read_from, made, lost}
use Rattle.irc_documents.specs.Networks.{side, is_from, read_as, begun, sent, anew, after}
use Rattle.irc_documents.specs.Networks.{after_all}
use Rattle.irc_documents.specs.Networks.{MayBeMade, MayBe, AllMayBe, IsMet, Meeting, StepsMeet}
use Rattle.irc_documents.specs.Laws.{IsSound, IsQuietPart, EndsAreAlike, PartsAreAlike}
use Rattle.irc_documents.specs.Laws.{UncrossedAsMade, UncrossedIsAsMade}
use Rattle.irc_documents.specs.Laws.{StepKeepsSound, LinksAreInFlight, EndsRestAlike}
use Rattle.irc_documents.specs.Laws.{PartsRestAlike}
use Rattle.irc_documents.specs.Laws.{AskedMayBeMade, StepsMeetByDiamond, AllGoesWell}
use Rattle.irc_documents.specs.Lemmas.LinksInFlight.{changing, stays_changing, counting}
use Rattle.irc_documents.specs.Lemmas.LinksInFlight.{stays_counting, writer_after, reader_after}
use Rattle.irc_documents.specs.Lemmas.LinksInFlight.{FarMeets, meets_far, IsRead, stays_read}
use Rattle.irc_documents.specs.Lemmas.LinksInFlight.{counter_after, stays_counted, turned}
use Rattle.irc_documents.specs.Lemmas.LinksInFlight.{begun_side, starts, rests}
use Rattle.irc_documents.specs.Lemmas.LinksInFlight.{uncrossed}

-- ---- who is who

is_from_itself : (s t : Name) → is_from s t s t ≡ true
is_from_itself s t = ap (λ b. b && same t t) (same_when s s refl) ∙ same_when t t refl

is_from_others : (s t x y : Name) → (x ≡ s → y ≡ t → ⊥) → is_from s t x y ≡ false
is_from_others s t x y n = elim (tell x s) [
  | unlike f _ ↦ and_left (same x s) (same y t) f
  | alike _ e ↦ and_right (same x s) (same y t) (same_unless y t (n e))
]

-- ---- links that are left

left_linked : (ls : List Link) (s t x y : Name) → AreLinked (links_without ls s t) x y
    → AreLinked ls x y
unfolding links_without
left_linked [] s t x y h = h
left_linked (l ∷ ls) s t x y h = go (has_ends l s t) (left_linked ls s t x y) h
  where
    go : (b : Bool) → (AreLinked (links_without ls s t) x y → AreLinked ls x y)
        → AreLinked (if b then ls else l ∷ links_without ls s t) x y → AreLinked (l ∷ ls) x y
    go true fewer h = inr h
    go false fewer (inl h) = inl h
    go false fewer (inr h) = inr (fewer h)

module _ {Doc Op : Type 0} (e : Editing Doc Op) where
  of_sides : (a b c d : Side Doc Op) → a ≡ c → b ≡ d → IsInFlight e c d → IsInFlight e a b
  of_sides a b c d p q link =
      subst (λ side. IsInFlight e side b) (sym p)
      (subst (λ side. IsInFlight e c side) (sym q) link)

  -- ---- an operation that a server does

  -- a side, if it is that server's (mine), and if this link is told
  abbrev changed : Bool → Bool → Op → Side Doc Op → Side Doc Op
  changed mine hears op side = record {
    doc = if mine then e.done side.doc op else side.doc;
    end = if mine && hears then with_more side.end (e.told_as op) else side.end;
    queue =
        if mine && hears then side.queue ++ map (written side.end) (e.told_as op)
        else side.queue;
  }

  is_told : (mine hears : Bool) (op : Op) (side : Side Doc Op) → mine ≡ true → hears ≡ true
      → changed mine hears op side ≡ changing e op side
  is_told mine hears op side m h =
      ap (λ b. changed b hears op side) m ∙ ap (λ b. changed true b op side) h

  is_other : (mine hears : Bool) (op : Op) (side : Side Doc Op) → mine ≡ false
      → changed mine hears op side ≡ side
  is_other mine hears op side m = ap (λ b. changed b hears op side) m

  given_keeps : (net : Net Doc Op) (s : Name) (op : Op) → e.may (net.doc s) op
      → IsSound e net → IsSound e (after e net (given s op))
  given_keeps net s op may sound = record {
    forest = sound.forest;
    in_flight = λ x y h. go x y h;
  }
    where
      new : Net Doc Op
      new = after e net (given s op)

      at : (x y : Name) → x ≡ s → AreLinked net.links x y
          → IsInFlight e (side new x y) (side new y x)
      at x y f h =
          let other = linked_other net.links x y sound.forest h in
          of_sides (side new x y) (side new y x) (changing e op (side net x y)) (side net y x)
          (is_told (same x s) (linked net.links s y) op (side net x y) (same_when x s f)
          ((linked_tells net.links s y).1 (subst (λ v. AreLinked net.links v y) f h)))
          (is_other (same y s) (linked net.links s x) op (side net y x)
          (same_unless y s (λ g. other (f ∙ sym g))))
          (stays_changing e (side net x y) (side net y x) op (sound.in_flight x y h)
          (subst (λ v. e.may (net.doc v) op) (sym f) may))

      go : (x y : Name) → AreLinked net.links x y → IsInFlight e (side new x y) (side new y x)
      go x y h = elim (tell x s) [
        | alike _ f ↦ at x y f h
        | unlike f _ ↦ elim (tell y s) [
          | alike _ g ↦ turned e (side new y x) (side new x y)
              (at y x g (linked_back net.links x y h))
          | unlike g _ ↦
              of_sides (side new x y) (side new y x) (side net x y) (side net y x)
              (is_other (same x s) (linked net.links s y) op (side net x y) f)
              (is_other (same y s) (linked net.links s x) op (side net y x) g)
              (sound.in_flight x y h)
        ]
      ]

  -- ---- a link of two servers, one of which tells or reads

  -- what holds of a link between s and t, if it holds of it from s, and of all others
  by_ends : (net new : Net Doc Op) (s t : Name) → IsSound e net
      → IsInFlight e (side new s t) (side new t s)
      → ((x y : Name) → (x ≡ s → y ≡ t → ⊥) → (x ≡ t → y ≡ s → ⊥)
      → AreLinked net.links x y → IsInFlight e (side new x y) (side new y x))
      → (x y : Name) → AreLinked net.links x y → IsInFlight e (side new x y) (side new y x)
  by_ends net new s t sound here others x y h = go (tell x s) (tell y t) (tell x t) (tell y s)
    where
      go : Telling x s → Telling y t → Telling x t → Telling y s
          → IsInFlight e (side new x y) (side new y x)
      go (alike _ f) (alike _ g) _ _ =
          subst (λ v. IsInFlight e (side new v y) (side new y v)) (sym f)
          (subst (λ v. IsInFlight e (side new s v) (side new v s)) (sym g) here)
      go (unlike _ m) _ (alike _ f) (alike _ g) =
          subst (λ v. IsInFlight e (side new v y) (side new y v)) (sym f)
          (subst (λ v. IsInFlight e (side new t v) (side new v t)) (sym g)
          (turned e (side new s t) (side new t s) here))
      go (alike _ _) (unlike _ n) (alike _ f) (alike _ g) =
          subst (λ v. IsInFlight e (side new v y) (side new y v)) (sym f)
          (subst (λ v. IsInFlight e (side new t v) (side new v t)) (sym g)
          (turned e (side new s t) (side new t s) here))
      go (unlike _ m) _ (unlike _ k) _ = others x y (λ f g. m f) (λ f g. k f) h
      go (unlike _ m) _ (alike _ _) (unlike _ k) = others x y (λ f g. m f) (λ f g. k g) h
      go (alike _ _) (unlike _ n) (unlike _ k) _ = others x y (λ f g. n g) (λ f g. k f) h
      go (alike _ _) (unlike _ n) (alike _ _) (unlike _ k) =
          others x y (λ f g. n g) (λ f g. k g) h

  -- ---- a count alone

  -- a side, if it is the one that tells
  abbrev counted_side : Bool → Side Doc Op → Side Doc Op
  counted_side tells side = record {
    doc = side.doc;
    end = side.end;
    queue = if tells then side.queue ++ only_count side.end.read ∷ [] else side.queue;
  }

  counts_keep : (net : Net Doc Op) (s t : Name) → AreLinked net.links s t → IsSound e net
      → IsSound e (after e net (counts_to s t))
  counts_keep net s t linked_here sound = record {
    forest = sound.forest;
    in_flight = by_ends net new s t sound
        (of_sides (side new s t) (side new t s) (counting e (side net s t)) (side net t s)
        (ap (λ b. counted_side b (side net s t)) (is_from_itself s t))
        (silent t s (λ f g. other g))
        (stays_counting e (side net s t) (side net t s) (sound.in_flight s t linked_here)))
        (λ x y m n h. of_sides (side new x y) (side new y x) (side net x y) (side net y x)
        (silent x y m) (silent y x (λ f g. n g f)) (sound.in_flight x y h));
  }
    where
      new : Net Doc Op
      new = after e net (counts_to s t)

      other : s ≢ t
      other = linked_other net.links s t sound.forest linked_here

      silent : (x y : Name) → (x ≡ s → y ≡ t → ⊥) → side new x y ≡ side net x y
      silent x y m = ap (λ b. counted_side b (side net x y)) (is_from_others s t x y m)

  -- ---- a message that is read

  -- a side, if it is the reader's, of a link to the writer, where the reader has a link, or the
  -- writer's of its link to the reader
  abbrev taken_side : Bool → Bool → Message Op → List (Message Op) → Side Doc Op → Side Doc Op
  taken_side reads theirs message queue side = record {
    doc = side.doc;
    end = if reads then after_message e side.end message else side.end;
    queue = if theirs then queue else side.queue;
  }

  abbrev read_side : Bool → Bool → Bool → Bool → Op → Message Op → List (Message Op)
      → Side Doc Op → Side Doc Op
  read_side mine toward hears theirs op message queue side =
      changed mine (hears && not toward) op
      (taken_side (mine && toward) theirs message queue side)

  module _ (net : Net Doc Op) (s t : Name) (queue : List (Message Op))
      (linked_here : AreLinked net.links s t) (sound : IsSound e net)
    where
      -- two servers are two
      s_not_t : s ≢ t
      s_not_t = linked_other net.links s t sound.forest linked_here

      count_keeps : (count : ℕ) → net.queue s t ≡ only_count count ∷ queue
          → IsSound e (read_as e (only_count count ∷ queue) net s t)
      count_keeps count first = record {
        forest = sound.forest;
        in_flight = by_ends net new s t sound
            (of_sides (side new s t) (side new t s) (writer_after e queue (side net s t))
            (counter_after e count (side net t s))
            (ap (λ b. taken_side b (is_from s t s t) (only_count count) queue (side net s t))
            (is_from_others t s s t (λ f g. s_not_t f))
            ∙ ap (λ b. taken_side false b (only_count count) queue (side net s t))
            (is_from_itself s t))
            (ap (λ b. taken_side b (is_from s t t s) (only_count count) queue (side net t s))
            (is_from_itself t s)
            ∙ ap (λ b. taken_side true b (only_count count) queue (side net t s))
            (is_from_others s t t s (λ f g. s_not_t g)))
            (stays_counted e (side net s t) (side net t s) count queue first
            (sound.in_flight s t linked_here)))
            (λ x y m n h. of_sides (side new x y) (side new y x) (side net x y) (side net y x)
            (as_before x y m n) (as_before y x (λ f g. n g f) (λ f g. m g f))
            (sound.in_flight x y h));
      }
        where
          new : Net Doc Op
          new = read_as e (only_count count ∷ queue) net s t

          as_before : (x y : Name) → (x ≡ s → y ≡ t → ⊥) → (x ≡ t → y ≡ s → ⊥)
              → side new x y ≡ side net x y
          as_before x y m n =
              ap (λ b. taken_side b (is_from s t x y) (only_count count) queue (side net x y))
              (is_from_others t s x y n)
              ∙ ap (λ b. taken_side false b (only_count count) queue (side net x y))
              (is_from_others s t x y m)

      module _ (count : ℕ) (first : Op) (waits : net.queue s t ≡ told count first ∷ queue)
          (meets : FarMeets e (side net t s) count first)
        where
          abbrev message : Message Op
          message = told count first

          abbrev outcome : Op
          outcome = became e (net.end t s) count first

          abbrev new : Net Doc Op
          new = read_as e (message ∷ queue) net s t

          is_read : IsRead e (side net s t) (side net t s) count first queue
          is_read = stays_read e (side net s t) (side net t s) count first queue waits meets
              (sound.in_flight s t linked_here)

          -- a side of this network, as it is then
          abbrev seen : Bool → Bool → Bool → Bool → Name → Name → Side Doc Op
          seen mine toward hears theirs x y =
              read_side mine toward hears theirs outcome message queue (side net x y)

          untouched : (x y : Name) → x ≢ t → (x ≡ s → y ≡ t → ⊥) → side new x y ≡ side net x y
          untouched x y m n =
              ap (λ b. seen b (same y s) (linked net.links t y) (is_from s t x y) x y)
              (same_unless x t m)
              ∙ ap (λ b. seen false (same y s) (linked net.links t y) b x y)
              (is_from_others s t x y n)

          at_reader : side new t s ≡ reader_after e count first (side net t s)
          at_reader =
              ap (λ b. seen b (same s s) (linked net.links t s) (is_from s t t s) t s)
              (same_when t t refl)
              ∙ ap (λ b. seen true b (linked net.links t s) (is_from s t t s) t s)
              (same_when s s refl)
              ∙ ap (λ b. seen true true b (is_from s t t s) t s)
              ((linked_tells net.links t s).1 (linked_back net.links s t linked_here))
              ∙ ap (λ b. seen true true true b t s) (is_from_others s t t s (λ f g. s_not_t g))

          at_writer : side new s t ≡ writer_after e queue (side net s t)
          at_writer =
              ap (λ b. seen b (same t s) (linked net.links t t) (is_from s t s t) s t)
              (same_unless s t s_not_t)
              ∙ ap (λ b. seen false (same t s) (linked net.links t t) b s t) (is_from_itself s t)

          at_told : (y : Name) → y ≢ s → AreLinked net.links t y
              → side new t y ≡ changing e outcome (side net t y)
          at_told y n h =
              ap (λ b. seen b (same y s) (linked net.links t y) (is_from s t t y) t y)
              (same_when t t refl)
              ∙ ap (λ b. seen true b (linked net.links t y) (is_from s t t y) t y)
              (same_unless y s n)
              ∙ ap (λ b. seen true false b (is_from s t t y) t y)
              ((linked_tells net.links t y).1 h)
              ∙ ap (λ b. seen true false true b t y)
              (is_from_others s t t y (λ f g. s_not_t (sym f)))

          onward : (y : Name) → y ≢ s → AreLinked net.links t y
              → IsInFlight e (side new t y) (side new y t)
          onward y n h =
              let other = linked_other net.links t y sound.forest h in
              of_sides (side new t y) (side new y t) (changing e outcome (side net t y))
              (side net y t) (at_told y n h) (untouched y t (λ f. other (sym f)) (λ f g. n f))
              (stays_changing e (side net t y) (side net y t) outcome (sound.in_flight t y h)
              is_read.may)

          from_reader : (x y : Name) → x ≡ t → y ≢ s → AreLinked net.links x y
              → IsInFlight e (side new x y) (side new y x)
          from_reader x y f n h =
              subst (λ v. IsInFlight e (side new v y) (side new y v)) (sym f)
              (onward y n (subst (λ v. AreLinked net.links v y) f h))

          elsewhere : (x y : Name) → (x ≡ s → y ≡ t → ⊥) → (x ≡ t → y ≡ s → ⊥)
              → AreLinked net.links x y → IsInFlight e (side new x y) (side new y x)
          elsewhere x y m n h = elim (tell x t) [
            | alike _ f ↦ from_reader x y f (n f) h
            | unlike _ k ↦ elim (tell y t) [
              | alike _ g ↦ turned e (side new y x) (side new x y)
                  (from_reader y x g (λ f. m f g) (linked_back net.links x y h))
              | unlike _ l ↦
                  of_sides (side new x y) (side new y x) (side net x y) (side net y x)
                  (untouched x y k m) (untouched y x l (λ f g. n g f)) (sound.in_flight x y h)
            ]
          ]

          read_keeps : IsSound e new
          read_keeps = record {
            forest = sound.forest;
            in_flight = by_ends net new s t sound
                (of_sides (side new s t) (side new t s) (writer_after e queue (side net s t))
                (reader_after e count first (side net t s)) at_writer at_reader is_read.stays)
                elsewhere;
          }

  -- ---- a link that begins anew, or is lost

  -- a side, if it is of the link's one end, or of its other
  abbrev anew_side : Bool → Bool → List Op → List Op → Side Doc Op → Side Doc Op
  anew_side one other here there side = record {
    doc = side.doc;
    end = if one then begun e here else if other then begun e there else side.end;
    queue = if one then sent e here else if other then sent e there else side.queue;
  }

  module _ (net : Net Doc Op) (links : List Link) (s t : Name) (here there : List Op) where
    abbrev fresh : Net Doc Op
    fresh = anew e net links s t here there

    as_before : (x y : Name) → (x ≡ s → y ≡ t → ⊥) → (x ≡ t → y ≡ s → ⊥)
        → side fresh x y ≡ side net x y
    as_before x y m n =
        ap (λ b. anew_side b (is_from t s x y) here there (side net x y))
        (is_from_others s t x y m)
        ∙ ap (λ b. anew_side false b here there (side net x y)) (is_from_others t s x y n)

    at_one : side fresh s t ≡ begun_side e (net.doc s) here
    at_one = ap (λ b. anew_side b (is_from t s s t) here there (side net s t)) (is_from_itself s t)

    at_other : s ≢ t → side fresh t s ≡ begun_side e (net.doc t) there
    at_other n =
        ap (λ b. anew_side b (is_from t s t s) here there (side net t s))
        (is_from_others s t t s (λ f g. n g))
        ∙ ap (λ b. anew_side false b here there (side net t s)) (is_from_itself t s)

  made_keeps : (net : Net Doc Op) (l : Link) (near far : List Op) → MayBeMade e net l near far
      → IsSound e net → IsSound e (after e net (made l near far))
  made_keeps net l near far may sound = record {
    forest = (may.apart, sound.forest);
    in_flight = λ x y h. go x y h;
  }
    where
      new : Net Doc Op
      new = after e net (made l near far)

      two : l.near ≢ l.far
      two f = may.apart (ap (part net.links) f)

      ends : IsInFlight e (side new l.near l.far) (side new l.far l.near)
      ends = of_sides (side new l.near l.far) (side new l.far l.near)
          (begun_side e (net.doc l.near) near) (begun_side e (net.doc l.far) far)
          (at_one net (l ∷ net.links) l.near l.far near far)
          (at_other net (l ∷ net.links) l.near l.far near far two)
          (starts e (net.doc l.near) (net.doc l.far) near far may.near_makes may.far_makes)

      before : (x y : Name) → AreLinked net.links x y → side new x y ≡ side net x y
      before x y h =
          let j = linked_joined net.links x y h in
          as_before net (l ∷ net.links) l.near l.far near far x y
          (λ f g. may.apart (sym (ap (part net.links) f) ∙ j ∙ ap (part net.links) g))
          (λ f g. may.apart (sym (ap (part net.links) g) ∙ sym j ∙ ap (part net.links) f))

      go : (x y : Name) → AreLinked (l ∷ net.links) x y
          → IsInFlight e (side new x y) (side new y x)
      go x y (inl (inl (f, g))) =
          subst (λ v. IsInFlight e (side new v y) (side new y v)) f
          (subst (λ v. IsInFlight e (side new l.near v) (side new v l.near)) g ends)
      go x y (inl (inr (f, g))) =
          subst (λ v. IsInFlight e (side new v y) (side new y v)) g
          (subst (λ v. IsInFlight e (side new l.far v) (side new v l.far)) f
          (turned e (side new l.near l.far) (side new l.far l.near) ends))
      go x y (inr h) =
          of_sides (side new x y) (side new y x) (side net x y) (side net y x) (before x y h)
          (before y x (linked_back net.links x y h)) (sound.in_flight x y h)

  lost_keeps : (net : Net Doc Op) (s t : Name) → AreLinked net.links s t → IsSound e net
      → IsSound e (after e net (lost s t))
  lost_keeps net s t between sound =
      let left = links_without net.links s t in
      let is_left = taken_out net.links s t sound.forest between in
      let before : (x y : Name) → AreLinked left x y
      → side (after e net (lost s t)) x y ≡ side net x y =
      λ x y h. as_before net left s t [] [] x y
      (λ f g. is_left.parted (sym (ap (part left) f) ∙ linked_joined left x y h
      ∙ ap (part left) g))
      (λ f g. is_left.parted (sym (ap (part left) g) ∙ sym (linked_joined left x y h)
      ∙ ap (part left) f)) in
      record {
        forest = is_left.forest;
        in_flight = λ x y h.
            of_sides (side (after e net (lost s t)) x y) (side (after e net (lost s t)) y x)
            (side net x y) (side net y x) (before x y h) (before y x (linked_back left x y h))
            (sound.in_flight x y (left_linked net.links s t x y h));
      }

  -- ---- whatever happens

  pub step_keeps_sound : StepKeepsSound e
  step_keeps_sound net (given s op) may meets sound = given_keeps net s op may sound
  step_keeps_sound net (counts_to s t) may meets sound = counts_keep net s t may sound
  step_keeps_sound net (read_from s t) may meets sound = go (net.queue s t) refl meets
    where
      go : (queue : List (Message Op)) → net.queue s t ≡ queue → IsMet e (net.end t s) queue
          → IsSound e (read_as e queue net s t)
      go [] first met = sound
      go (told count op ∷ queue) first met =
          read_keeps net s t queue may sound count op first met
      go (only_count count ∷ queue) first met = count_keeps net s t queue may sound count first
  step_keeps_sound net (made l near far) may meets sound = made_keeps net l near far may sound
  step_keeps_sound net (lost s t) may meets sound = lost_keeps net s t may sound

  all_keep : (net : Net Doc Op) (steps : List (Step Op)) → AllMayBe e net steps
      → StepsMeet e net steps → IsSound e net → IsSound e (after_all e net steps)
  all_keep net [] may meets sound = sound
  all_keep net (step ∷ steps) may meets sound =
      all_keep (after e net step) steps may.1 meets.1
      (step_keeps_sound net step may.0 meets.0 sound)

  pub without_links : (start : Net Doc Op) → start.links ≡ [] → IsSound e start
  without_links start none = record {
    forest = subst IsForest (sym none) tt;
    in_flight = λ s t h. absurd (subst (λ ls. AreLinked ls s t) none h);
  }

  pub links_are_in_flight : LinksAreInFlight e
  links_are_in_flight start steps none may meets =
      all_keep start steps may meets (without_links start none)

  -- ---- at rest

  pub ends_are_alike : (net : Net Doc Op) → IsSound e net → EndsAreAlike e net
  ends_are_alike net sound s t h quiet =
      rests e (side net s t) (side net t s) (sound.in_flight s t h) quiet.forth quiet.back

  -- along a walk
  walk_alike : (net : Net Doc Op) (s : Name) (path : List Name) (t : Name) → IsSound e net
      → IsWalk net.links s path t → IsQuietPart e net s → net.doc s ≡ net.doc t
  walk_alike net s [] t sound walk quiet = ap net.doc walk
  walk_alike net s (next ∷ path) t sound walk quiet =
      ends_are_alike net sound s next walk.0 (quiet s next refl walk.0)
      ∙ walk_alike net next path t sound walk.1
      (λ x y j. quiet x y (linked_joined net.links s next walk.0 ∙ j))

  pub parts_are_alike : TheWayIsAWalk → (net : Net Doc Op) → IsSound e net → PartsAreAlike e net
  parts_are_alike is_a_walk net sound s t j quiet =
      walk_alike net s (way net.links s t) t sound (is_a_walk net.links s t sound.forest j).0 quiet

  pub ends_rest_alike : EndsRestAlike e
  ends_rest_alike start steps none may meets =
      ends_are_alike (after_all e start steps) (links_are_in_flight start steps none may meets)

  pub parts_rest_alike : TheWayIsAWalk → PartsRestAlike e
  parts_rest_alike is_a_walk start steps none may meets =
      parts_are_alike is_a_walk (after_all e start steps)
      (links_are_in_flight start steps none may meets)

  uncrossed_now : (net : Net Doc Op) → IsSound e net → UncrossedAsMade e net
  uncrossed_now net sound s t op h there =
      uncrossed e (side net s t) (side net t s) op (sound.in_flight s t h) there

  pub uncrossed_is_as_made : UncrossedIsAsMade e
  uncrossed_is_as_made start steps none may meets =
      uncrossed_now (after_all e start steps) (links_are_in_flight start steps none may meets)

  pub asked_may_be_made : AskedMayBeMade e
  asked_may_be_made start steps none may meets s t count op queue h first met =
      let net = after_all e start steps in
      (stays_read e (side net s t) (side net t s) count op queue first
      (subst (IsMet e (net.end t s)) first met)
      ((links_are_in_flight start steps none may meets).in_flight s t h)).may

  -- ---- where the diamond holds of all

  meets_next : HasDiamond e → (net : Net Doc Op) (s t : Name) → AreLinked net.links s t
      → IsSound e net → (queue : List (Message Op)) → net.queue s t ≡ queue
      → IsMet e (net.end t s) queue
  meets_next d net s t h sound [] first = tt
  meets_next d net s t h sound (told count op ∷ queue) first =
      meets_far e d (side net s t) (side net t s) count op queue first (sound.in_flight s t h)
  meets_next d net s t h sound (only_count count ∷ queue) first = tt

  meeting : HasDiamond e → (net : Net Doc Op) (step : Step Op) → MayBe e net step
      → IsSound e net → Meeting e net step
  meeting d net (read_from s t) may sound =
      meets_next d net s t may sound (net.queue s t) refl
  meeting d net (given s op) may sound = tt
  meeting d net (counts_to s t) may sound = tt
  meeting d net (made l near far) may sound = tt
  meeting d net (lost s t) may sound = tt

  all_meeting : HasDiamond e → (net : Net Doc Op) (steps : List (Step Op)) → AllMayBe e net steps
      → IsSound e net → StepsMeet e net steps
  all_meeting d net [] may sound = tt
  all_meeting d net (step ∷ steps) may sound =
      let met = meeting d net step may.0 sound in (
        met,
        all_meeting d (after e net step) steps may.1 (step_keeps_sound net step may.0 met sound),
      )

  pub steps_meet_by_diamond : StepsMeetByDiamond e
  steps_meet_by_diamond d start steps none may =
      all_meeting d start steps may (without_links start none)

  pub all_goes_well : TheWayIsAWalk → AllGoesWell e
  all_goes_well is_a_walk d start steps none may =
      let net = after_all e start steps in
      let met = steps_meet_by_diamond d start steps none may in
      let sound = links_are_in_flight start steps none may met in
      record {
        sound = sound;
        ends = ends_are_alike net sound;
        parts = parts_are_alike is_a_walk net sound;
        uncrossed = uncrossed_now net sound;
        asked = λ s t count op queue h first.
            (stays_read e (side net s t) (side net t s) count op queue first
            (meets_far e d (side net s t) (side net t s) count op queue first
            (sound.in_flight s t h)) (sound.in_flight s t h)).may;
      }
