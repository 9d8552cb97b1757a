-- Machines that do line by line what a world does act by act do it as a whole: at every depth a
-- server takes lines that tell of all acts, its state fits the world after them, and it has shown
-- what they show.
use Rattle.std.proofs.Common.{◌≡◌, ◌≢◌, ℕ, zero, suc, ◌<◌, List, ◌∷◌, ◌++◌, refl, sym, ap, subst}
use Rattle.std.proofs.Common.{◌∙◌, arith}
use Rattle.irc_relay.specs.Links.{Name, Link, IsForest, AreLinked, IsNextHop, toward, distance}
use Rattle.irc_relay.specs.Relay.{Machine, RelayState, Streams, streams_from, SourcesMeet, one}
use Rattle.irc_relay.specs.Relay.{each_other}
use Rattle.irc_relay.specs.Relay.{own, Covers, TakesFrom, ComesInTurn, at_source, from_source}
use Rattle.irc_relay.specs.Relay.{from_parent, after, passed_on, shown_upon, under_way, coming}
use Rattle.irc_relay.specs.Relay.{final_shown}
use Rattle.irc_relay.specs.Following.{AllAlong, GoesWell, Play, all_done, all_seen, Terms, SaysOn}
use Rattle.irc_relay.specs.Following.{sends, keeps, Follows, Tells, nothing, by_line, aside_line}
use Rattle.irc_relay.specs.Following.{passing_by, Starts, IsFollowing}
use Rattle.irc_relay.specs.Lemmas.StreamsFlow.{IsFlow, covers_flows}
use Rattle.irc_relay.specs.Lemmas.Deliveries.{comes_in_turn}
use Rattle.irc_relay.specs.Lemmas.NextHops.{distance_self, linked_back, next_hop}

-- ---- one stream

module _ (State Line Shown World Act : Type 0) (m : Machine State Line Shown)
    (play : Play World Act Shown) (x : Terms State Line World Act)
    (links : List Link) (streams : Streams) (follows : Follows m play x links streams) where
  -- what comes of a stream that tells of acts
  told_fits : (p t : Name) → TakesFrom streams t p → (w : World) (s : State)
      (acts : List Act) (lines : List Line) → x.fits t w s → Tells m play x p t w s acts lines
      → x.fits t (all_done play w acts) (after m t p s lines)
  told_fits p t takes w s acts lines fits nothing = fits
  told_fits p t takes w s (act ∷ acts) (line ∷ lines) fits (by_line said more) =
      told_fits p t takes (play.done w act) (m.step t p s line) acts lines
      (follows.said_fits p t w s act line takes fits said) more
  told_fits p t takes w s acts (line ∷ lines) fits (aside_line aside more) =
      told_fits p t takes w (m.step t p s line) acts lines
      (follows.aside_fits p t w s line takes fits aside) more
  told_fits p t takes w s (act ∷ acts) lines fits (passing_by passes more) =
      told_fits p t takes (play.done w act) s acts lines
      (follows.passed_fits t w s act fits passes) more

  told_shows : (p t : Name) → TakesFrom streams t p → (w : World) (s : State)
      (acts : List Act) (lines : List Line) → x.fits t w s → Tells m play x p t w s acts lines
      → shown_upon m t p s lines ≡ all_seen play t w acts
  told_shows p t takes w s acts lines fits nothing = refl
  told_shows p t takes w s (act ∷ acts) (line ∷ lines) fits (by_line said more) =
      ap (λ v. v ++ shown_upon m t p (m.step t p s line) lines)
      (follows.said_shows p t w s act line takes fits said)
      ∙ ap (λ v. play.seen t w act ++ v)
      (told_shows p t takes (play.done w act) (m.step t p s line) acts lines
      (follows.said_fits p t w s act line takes fits said) more)
  told_shows p t takes w s acts (line ∷ lines) fits (aside_line aside more) =
      ap (λ v. v ++ shown_upon m t p (m.step t p s line) lines)
      (follows.aside_shows p t w s line takes fits aside)
      ∙ told_shows p t takes w (m.step t p s line) acts lines
      (follows.aside_fits p t w s line takes fits aside) more
  told_shows p t takes w s (act ∷ acts) lines fits (passing_by passes more) =
      told_shows p t takes (play.done w act) s acts lines
      (follows.passed_fits t w s act fits passes) more
      ∙ ap (λ v. v ++ all_seen play t (play.done w act) acts)
      (sym (follows.passed_shows t w act passes))

  told_well : (p t : Name) → TakesFrom streams t p → (w : World) (s : State)
      (acts : List Act) (lines : List Line) → x.fits t w s → Tells m play x p t w s acts lines
      → AllAlong m x.good p t s lines
  told_well p t takes w s acts lines fits nothing = tt
  told_well p t takes w s (act ∷ acts) (line ∷ lines) fits (by_line said more) = (
    follows.said_good p t w s act line takes fits said,
    told_well p t takes (play.done w act) (m.step t p s line) acts lines
        (follows.said_fits p t w s act line takes fits said) more,
  )
  told_well p t takes w s acts (line ∷ lines) fits (aside_line aside more) = (
    follows.aside_good p t w s line takes fits aside,
    told_well p t takes w (m.step t p s line) acts lines
        (follows.aside_fits p t w s line takes fits aside) more,
  )
  told_well p t takes w s (act ∷ acts) lines fits (passing_by passes more) =
      told_well p t takes (play.done w act) s acts lines
      (follows.passed_fits t w s act fits passes) more

  -- what a server sends on of a stream that tells of acts tells its neighbour of the same acts, and
  -- they meet at the end
  pub record IsToldOn (t u : Name) (w : World) (su : State) (acts : List Act) (after_all : State)
      (lines : List Line) : Type 0 where
    pub tells : Tells m play x t u w su acts lines
    pub meet : x.meet t u after_all (after m u t su lines)

  module _ (p t u : Name) (linked : AreLinked links t u) (takes : TakesFrom streams t p)
      (next : TakesFrom streams u t) (apart : u ≢ p) where
    said_first : (w : World) (su : State) (act : Act) (acts : List Act)
        (s' after_all : State) (first rest : List Line) → SaysOn m x t u w su act s' first
        → ((su' : State) → x.fits u (play.done w act) su' → x.meet t u s' su'
        → IsToldOn t u (play.done w act) su' acts after_all rest) → x.fits u w su
        → IsToldOn t u w su (act ∷ acts) after_all (first ++ rest)
    said_first w su act acts s' after_all first rest (sends line e said meet) more fits =
        subst (λ lines. IsToldOn t u w su (act ∷ acts) after_all (lines ++ rest)) (sym e)
        (let later = more (m.step u t su line)
        (follows.said_fits t u w su act line next fits said) meet in
        record { tells = by_line said later.tells; meet = later.meet })
    said_first w su act acts s' after_all first rest (keeps e passes meet) more fits =
        subst (λ lines. IsToldOn t u w su (act ∷ acts) after_all (lines ++ rest)) (sym e)
        (let later = more su (follows.passed_fits u w su act fits passes) meet in
        record { tells = passing_by passes later.tells; meet = later.meet })

    pub told_on : (w : World) (s su : State) (acts : List Act) (lines : List Line)
        → x.fits t w s → x.fits u w su → x.meet t u s su → Tells m play x p t w s acts lines
        → IsToldOn t u w su acts (after m t p s lines) (passed_on m t p s lines u)
    told_on w s su acts lines fits fits_u meet nothing = record { tells = nothing; meet = meet }
    told_on w s su (act ∷ acts) (line ∷ lines) fits fits_u meet (by_line said more) =
        said_first w su act acts (m.step t p s line) (after m t p (m.step t p s line) lines)
        (m.sends t p s line u)
        (passed_on m t p (m.step t p s line) lines u)
        (follows.said_on p t u w s su act line linked takes next apart fits fits_u meet said)
        (λ su' fits' meet'. told_on (play.done w act) (m.step t p s line) su' acts lines
        (follows.said_fits p t w s act line takes fits said) fits' meet' more)
        fits_u
    told_on w s su acts (line ∷ lines) fits fits_u meet (aside_line aside more) =
        subst (λ first. IsToldOn t u w su acts (after m t p (m.step t p s line) lines)
        (first ++ passed_on m t p (m.step t p s line) lines u))
        (sym (follows.aside_sends p t u w s line takes next apart fits aside))
        (told_on w (m.step t p s line) su acts lines
        (follows.aside_fits p t w s line takes fits aside) fits_u
        (follows.aside_meets p t u w s su line takes next apart fits fits_u meet aside) more)
    told_on w s su (act ∷ acts) lines fits fits_u meet (passing_by passes more) =
        let passes_u = follows.passed_on t u w act next passes in
        let later =
        told_on (play.done w act) s su acts lines (follows.passed_fits t w s act fits passes)
        (follows.passed_fits u w su act fits_u passes_u) meet more in
        record { tells = passing_by passes_u later.tells; meet = later.meet }

-- ---- every depth

-- no server takes from one that takes from it, but next to a source
module _ (links : List Link) (source : Name → Name) (forest : IsForest links)
    (covers : Covers links source) where
  away : (t : Name) (n : ℕ) → distance links t (source t) ≡ suc n → t ≢ source t
  away t n d e =
      let z = ap (λ v. distance links v (source t)) e ∙ distance_self links (source t) in
      let p : ⊥ = omega arith in
      p

  hop : (t : Name) (n : ℕ) → distance links t (source t) ≡ suc n
      → IsNextHop links t (source t) (toward links t (source t))
  hop t n d = next_hop links t (source t) forest (covers.joined t) (away t n d)

  pub no_return : (t q : Name) (k : ℕ) → toward links t (source t) ≡ q → distance links q (source q)
      ≡ suc k → distance links t (source t) ≡ suc (suc k) → t ≢ toward links q (source q)
  no_return t q k next deep below e =
      go (covers.linked t q (subst (λ v. AreLinked links t v) next (hop t (suc k) below).linked))
    where
      -- the parent's source is as far from t as the parent's distance less one
      nearer : suc k ≡ suc (distance links t (source q))
      nearer =
          sym deep ∙ (hop q k deep).nearer ∙ ap (λ v. suc (distance links v (source q))) (sym e)

      go : SourcesMeet source t q → ⊥
      go (one f) = let g = ap (λ v. distance links t v) f in let n = nearer in omega arith
      go (own f g) = away t (suc k) below (sym f)
      go (each_other f g) =
          let near =
          (hop t (suc k) below).nearer ∙ ap (λ v. suc (distance links v (source t))) next in
          let none = ap (λ v. distance links q v) f ∙ distance_self links q in
          omega arith

module _ (State Line Shown World Act : Type 0) (m : Machine State Line Shown)
    (play : Play World Act Shown) (x : Terms State Line World Act)
    (links : List Link) (source : Name → Name) (forest : IsForest links)
    (covers : Covers links source)
    (follows : Follows m play x links (streams_from links source))
    (net : RelayState State Line Shown)
    (world : Name → World) (acts : Name → List Act)
    (starts : Starts m play x (streams_from links source) net world acts) where
  abbrev from : Streams
  from = streams_from links source

  flow : IsFlow links from
  flow = covers_flows links source forest covers

  -- the lines that are coming to a server tell of its acts, from its world on
  abbrev IsTold : Name → Type 0
  IsTold t = Tells m play x (from.parent t) t (world t) (net.state t) (acts t) (coming m from net t)

  -- so they do where they do at its parent
  one_deeper : (t : Name) (k : ℕ) → from.depth (from.parent t) ≡ suc k → from.depth t ≡ suc (suc k)
      → coming m from net t ≡ under_way net (from.parent t) t
      ++ passed_on m (from.parent t) (from.parent (from.parent t)) (net.state (from.parent t))
      (coming m from net (from.parent t)) t
      → IsTold (from.parent t) → IsTold t
  one_deeper t k deep below comes final_shown =
      subst (λ lines. Tells m play x (from.parent t) t (world t) (net.state t) (acts t) lines)
      (sym comes)
      (subst (λ lines. Tells m play x (from.parent t) t (world t) (net.state t) (acts t)
      (lines ++ sent_on)) (sym (starts.still t taking next))
      (subst (λ w. Tells m play x (from.parent t) t w (net.state t) (acts t) sent_on)
      (sym (starts.one_world t taking next))
      (subst (λ list. Tells m play x (from.parent t) t (world (from.parent t))
      (net.state t) list sent_on) (sym (starts.one_list t taking next))
      (told_on State Line Shown World Act m play x links from follows (from.parent (from.parent t))
      (from.parent t) t linked
      (record { parent = refl; below = taking }) (record { parent = refl; below = omega arith })
      (no_return links source forest covers t (from.parent t) k refl deep below)
      (world (from.parent t)) (net.state (from.parent t)) (net.state t) (acts (from.parent t))
      (coming m from net (from.parent t))
      (starts.fits (from.parent t) taking)
      (subst (λ w. x.fits t w (net.state t)) (starts.one_world t taking next)
      (starts.fits t (omega arith)))
      (starts.meets t taking next) final_shown).tells)))
    where
      taking : 0 < from.depth (from.parent t)
      taking = omega arith

      next : from.depth t ≡ suc (from.depth (from.parent t))
      next = below ∙ ap suc (sym deep)

      linked : AreLinked links (from.parent t) t
      linked = linked_back links t (from.parent t)
          (hop links source forest covers t (suc k) below).linked

      sent_on : List Line
      sent_on = passed_on m (from.parent t) (from.parent (from.parent t))
          (net.state (from.parent t)) (coming m from net (from.parent t)) t

  at_depth : (n : ℕ) (t : Name) → from.depth t ≡ suc n → ComesInTurn m from net t → IsTold t
  at_depth n t d (at_source z comes) = let q : ⊥ = omega arith in absurd q
  at_depth n t d (from_source z comes) = subst (λ lines. Tells m play x (from.parent t) t (world t)
      (net.state t) (acts t) lines) (sym comes) (starts.first t z)
  at_depth zero t d (from_parent taking next comes) = let q : ⊥ = omega arith in absurd q
  at_depth (suc k) t d (from_parent taking next comes) =
      one_deeper t k (omega arith) d comes (at_depth k (from.parent t) (omega arith)
      (comes_in_turn m links from net (from.parent t) flow))

  -- every server that takes lines follows
  pub followed : (t : Name) → 0 < from.depth t → IsFollowing m play x from net (world t) (acts t) t
  followed t below = go (from.depth t) refl
    where
      takes : TakesFrom from t (from.parent t)
      takes = record { parent = refl; below = below }

      by_stream : IsTold t → IsFollowing m play x from net (world t) (acts t) t
      by_stream tells =
          record {
            tells = tells;
            fits = told_fits State Line Shown World Act m play x links from follows
                (from.parent t) t takes (world t) (net.state t) (acts t)
                (coming m from net t) (starts.fits t below) tells;
            shown = ap (λ v. net.shown t ++ v) (told_shows State Line Shown World Act m play x links
                from follows (from.parent t) t takes (world t)
                (net.state t) (acts t) (coming m from net t) (starts.fits t below) tells);
            well = told_well State Line Shown World Act m play x links from follows
                (from.parent t) t takes (world t) (net.state t) (acts t)
                (coming m from net t) (starts.fits t below) tells;
          }

      go : (n : ℕ) → from.depth t ≡ n → IsFollowing m play x from net (world t) (acts t) t
      go zero d = let q : ⊥ = omega arith in absurd q
      go (suc n) d = by_stream (at_depth n t d (comes_in_turn m links from net t flow))

  -- so the whole net goes well: to a server at no distance from its source nothing comes
  pub all_well : GoesWell m from x.good net
  all_well t = go (from.depth t) refl (comes_in_turn m links from net t flow)
    where
      go : (n : ℕ) → from.depth t ≡ n → ComesInTurn m from net t
          → AllAlong m x.good (from.parent t) t (net.state t) (coming m from net t)
      go zero d (at_source z comes) =
          subst (λ lines. AllAlong m x.good (from.parent t) t (net.state t) lines) (sym comes) tt
      go zero d (from_source z comes) = let q : ⊥ = omega arith in absurd q
      go zero d (from_parent taking next comes) = let q : ⊥ = omega arith in absurd q
      go (suc n) d comes = (followed t (omega arith)).well
