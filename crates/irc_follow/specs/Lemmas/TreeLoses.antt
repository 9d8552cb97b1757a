-- A side that knows a server less is sound as it was.
use Rattle.std.proofs.Common.{◌≡◌, ◌≤◌, ℕ, Bool, true, false, cond, not, ◌&&◌, Some, None, List}
use Rattle.std.proofs.Common.{refl, sym, ◌∙◌, ap, if◌then◌else◌}
use Rattle.std.specs.Option.{option_map}
use Rattle.irc_names.specs.TableLaws.{same_fold, same_fold-refl, one_fold, row-alter}
use Rattle.irc_relay.specs.Links.{Name, same, AreLinked}
use Rattle.irc_relay.specs.Lemmas.TellingNames.{Telling, alike, unlike, tell, same_unless}
use Rattle.irc_routes.specs.declared.server_row.ServerRow.{ServerRow}
use Rattle.irc_routes.specs.Known.{Known, is_itself, row_of, token_out, without_server, IsNumbered}
use Rattle.irc_routes.specs.Limits.{max_servers}
use Rattle.irc_routes.specs.Lemmas.RouteLaws.{stays_numbered}
use Rattle.irc_follow.specs.Tree.{Tree, shape, shape_in, lost, lost_at, index_in, IsSoundTree}
use Rattle.irc_follow.specs.Tree.{CanLose}

module _ (names : List Name) (info : Name → List ℕ) (tree : Tree)
    (sound : IsSoundTree names info tree) (name : List ℕ) (can : CanLose tree name) where
  here_is : (t : Name) → tree.here t ≡ true
      → lost_at tree name t ≡ without_server name (tree.routes t)
  here_is t here = ap (λ b. if b then without_server name (tree.routes t) else tree.routes t) here

  by_moment : (P : Known → Type 0) (t : Name) → P (without_server name (tree.routes t))
      → P (tree.routes t) → P (lost_at tree name t)
  by_moment P t told still = by (tree.here t)
    where
      by : (b : Bool) → P (if b then without_server name (tree.routes t) else tree.routes t)
      by true = told
      by false = still

  row_left : (t q : Name) → row_of (without_server name (tree.routes t)) q
      ≡ cond (same_fold q name) None (row_of (tree.routes t) q)
  row_left t q = row-alter name (λ _. None) (tree.routes t).rows q

  rows_now : (t x : Name) → tree.here t ≡ true
      → option_map shape (row_of (lost_at tree name t) x)
      ≡ (if (tree.knows x && not (same x name)) && not (same x t)
      then Some (shape_in names info tree.forest t x) else None)
  rows_now t x here =
      ap (λ known. option_map shape (row_of known x)) (here_is t here)
      ∙ ap (option_map shape) (row_left t x)
      ∙ by (same_fold x name) refl (tell x name)
    where
      none_here : (b c : Bool)
          → cond ((b && not true) && c) (Some (shape_in names info tree.forest t x)) None ≡ None
      none_here true c = refl
      none_here false c = refl

      all_here : (b c : Bool)
          → cond ((b && not false) && c) (Some (shape_in names info tree.forest t x)) None
          ≡ cond (b && c) (Some (shape_in names info tree.forest t x)) None
      all_here true c = refl
      all_here false c = refl

      by : (b : Bool) → same_fold x name ≡ b → Telling x name
          → option_map shape (cond b None (row_of (tree.routes t) x))
          ≡ (if (tree.knows x && not (same x name)) && not (same x t)
          then Some (shape_in names info tree.forest t x) else None)
      by true one (unlike _ two) = absurd (two (one_fold x name one))
      by true one (alike is _) =
          sym (ap (λ b. cond ((tree.knows x && not b) && not (same x t))
          (Some (shape_in names info tree.forest t x)) None) is
          ∙ none_here (tree.knows x) (not (same x t)))
      by false two (alike _ e) = absurd (cc (sym two ∙ ap (same_fold x) (sym e) ∙ same_fold-refl x))
      by false two (unlike is _) =
          sound.rows t x here
          ∙ sym (ap (λ b. cond ((tree.knows x && not b) && not (same x t))
          (Some (shape_in names info tree.forest t x)) None) is
          ∙ all_here (tree.knows x) (not (same x t)))

  tokens_now : (t u x : Name) (r : ServerRow) → tree.here u ≡ true → AreLinked tree.forest t u
      → row_of (lost_at tree name u) x ≡ Some r → r.link ≡ index_in names t
      → token_out (lost_at tree name t) x ≡ Some r.token
  tokens_now t u x r here linked there link =
      by (same_fold x name) refl (sym (row_left u x)
      ∙ sym (ap (λ known. row_of known x) (here_is u here)) ∙ there)
    where
      by : (b : Bool) → same_fold x name ≡ b → cond b None (row_of (tree.routes u) x) ≡ Some r
          → token_out (lost_at tree name t) x ≡ Some r.token
      by true one is = absurd (cc is)
      by false two is =
          by_moment (λ known. token_out known x ≡ token_out (tree.routes t) x) t
          (ap (λ o. cond (is_itself (tree.routes t) x) (Some 1)
          (option_map (λ (r : ServerRow). r.ours) o))
          (row_left t x ∙ ap (λ b. cond b None (row_of (tree.routes t) x)) two))
          refl
          ∙ sound.tokens t u x r here linked is link

  low_left : (t x : Name) (r : ServerRow) → tree.here t ≡ true
      → row_of (lost_at tree name t) x ≡ Some r → r.ours ≤ max_servers
  low_left t x r here there = by (same_fold x name)
      (sym (row_left t x) ∙ sym (ap (λ known. row_of known x) (here_is t here)) ∙ there)
    where
      by : (b : Bool) → cond b None (row_of (tree.routes t) x) ≡ Some r → r.ours ≤ max_servers
      by true is = absurd (cc is)
      by false is = sound.low t x r here is

  pub lost_is_sound : IsSoundTree names info (lost name tree)
  lost_is_sound = record {
    forest = sound.forest;
    ends = sound.ends;
    here_known = λ t here.
        ap (λ b. b && not (same t name)) (sound.here_known t here)
        ∙ ap not (same_unless t name (λ e. cc (sym here ∙ ap tree.here e ∙ can.elsewhere)));
    known_among = λ x known. sound.known_among x (left (tree.knows x) (same x name) known);
    joined = λ t x here known. sound.joined t x here (left (tree.knows x) (same x name) known);
    rows = rows_now;
    numbered = λ t among. by_moment IsNumbered t (stays_numbered.forgotten (tree.routes t) name
        (sound.numbered t among)) (sound.numbered t among);
    named = λ t among. by_moment (λ (known : Known). known.name ≡ t) t (sound.named t among)
        (sound.named t among);
    told_away = λ t among. by_moment (λ (known : Known). known.about.tells_away ≡ true) t
        (sound.told_away t among) (sound.told_away t among);
    low = λ t x r here there. low_left t x r here there;
    tokens = tokens_now;
  }
    where
      left : (b c : Bool) → (b && not c) ≡ true → b ≡ true
      left true c is = refl
      left false c is = cc is
