-- One seat changes, and the head of one fold with it.
use Rattle.std.proofs.Common.{◌≡◌, ◌≢◌, ℕ, Bool, true, false, cond, List, refl, sym, ◌∙◌, ap}
use Rattle.std.proofs.Common.{Option, Some, None, inl, inr, option_map}
use Rattle.std.proofs.lemmas.Bool.{cases_eq}
use Rattle.std.specs.Option.{option_and_then}
use Rattle.irc_names.specs.Fold.{key}
use Rattle.irc_names.specs.Tables.{Table, row, alter}
use Rattle.irc_names.specs.TableLaws.{same_fold, same_fold-refl, one_fold, same_table, row-alter}
use Rattle.irc_names.specs.TableLaws.{row-alter_same, row-alter_other, row-each, each-alter}
use Rattle.irc_users.specs.declared.user.User.{User}
use Rattle.irc_users.specs.declared.users.Head.{Head}
use Rattle.irc_users.specs.Rosters.{head, users_by, numbers_by, IsSeating}

-- seats of which one is not known to be as it was
pub record SeatChanges (before after : ℕ → Option User) (n : ℕ) (now : Option User) : Type 0 where
  pub others : (m : ℕ) → m ≢ n → after m ≡ before m
  pub here : after n ≡ now

-- a seat and a fold go together, and so do who sits there now and the fold
pub record GoTogether (sits : ℕ → Option User) (heads : Table Head) (n : ℕ) (fold : List ℕ)
    (now : Option User) : Type 0 where
  pub fits : (user : User) → now ≡ Some user → key user.nick ≡ fold
  pub rows : (q : List ℕ) (h : Head) → row heads q ≡ Some h → h.number ≡ n → q ≡ fold
  pub seats : (m : ℕ) (user : User) → sits m ≡ Some user → key user.nick ≡ fold → m ≡ n

-- two folds are not one where the test says so
pub not_one : (q fold : List ℕ) → same_fold q fold ≡ false → q ≡ fold → (P : Type 0) → P
not_one q fold apart same P = absurd (let t : true ≡ false = sym (same_fold-refl fold)
    ∙ ap (λ f. same_fold f fold) (sym same) ∙ apart in cc)

module _ (before after : ℕ → Option User) (heads : Table Head) (n : ℕ) (fold : List ℕ)
    (now : Option User) (seating : IsSeating before heads)
    (changes : SeatChanges before after n now) (together : GoTogether before heads n fold now) where
  abbrev pub heads_after : Table Head
  heads_after = alter fold (λ _. option_map (head n) now) heads

  kept_elsewhere : (q : List ℕ) → same_fold q fold ≡ false → (h : Head) → row heads q ≡ Some h
      → after h.number ≡ before h.number
  kept_elsewhere q apart h is =
      changes.others h.number (λ one. not_one q fold apart (together.rows q h is one) _)

  sits_now : (o : Option User) → after n ≡ o
      → option_and_then (λ (h : Head). after h.number) (option_map (head n) o) ≡ o
  sits_now None here = refl
  sits_now (Some user) here = here

  pub users_changed : users_by after heads_after ≡ alter fold (λ _. now) (users_by before heads)
  users_changed = same_table _ _ (λ q.
      row-each (λ (h : Head). after h.number) heads_after q
      ∙ ap (option_and_then (λ (h : Head). after h.number))
      (row-alter fold (λ _. option_map (head n) now) heads q)
      ∙ by_fold q (same_fold q fold) refl
      ∙ sym (row-alter fold (λ _. now) (users_by before heads) q
      ∙ ap (cond (same_fold q fold) now) (row-each (λ (h : Head). before h.number) heads q)))
    where
      by_row : (q : List ℕ) → same_fold q fold ≡ false → (o : Option Head)
          → row heads q ≡ o → option_and_then (λ (h : Head). after h.number) o
          ≡ option_and_then (λ (h : Head). before h.number) o
      by_row q apart None is = refl
      by_row q apart (Some h) is = kept_elsewhere q apart h is

      by_fold : (q : List ℕ) (b : Bool) → same_fold q fold ≡ b → option_and_then
          (λ (h : Head). after h.number) (cond b (option_map (head n) now) (row heads q))
          ≡ cond b now (option_and_then (λ (h : Head). before h.number) (row heads q))
      by_fold q true same = sits_now now changes.here
      by_fold q false apart = by_row q apart (row heads q) refl

  number_now : (o : Option User) → option_and_then (λ (h : Head). Some h.number)
      (option_map (head n) o) ≡ option_map (λ _. n) o
  number_now None = refl
  number_now (Some user) = refl

  pub numbers_changed : numbers_by heads_after ≡ alter fold (λ _. option_map (λ _. n) now)
      (numbers_by heads)
  numbers_changed =
      each-alter (λ (h : Head). Some h.number) fold (λ _. option_map (head n) now)
      (λ _. option_map (λ _. n) now) heads (number_now now)

  -- what stands at the fold now
  there_now : (o : Option User) → now ≡ o → (h : Head) → option_map (head n) o ≡ Some h
      → (key h.nick ≡ fold) × (option_map (head h.number) (after h.number) ≡ Some h)
  there_now None is h e = absurd (cc)
  there_now (Some user) is h e =
      let one : head n user ≡ h = cc in (
        ap (λ (k : Head). key k.nick) (sym one) ∙ together.fits user is,
        ap (λ (k : Head). option_map (head k.number) (after k.number)) (sym one)
            ∙ ap (option_map (head n)) (changes.here ∙ is) ∙ e,
      )

  by_named : (q : List ℕ) (h : Head) (b : Bool) → same_fold q fold ≡ b
      → cond b (option_map (head n) now) (row heads q) ≡ Some h → key h.nick ≡ q
  by_named q h true same e = (there_now now refl h e).0 ∙ sym (one_fold q fold same)
  by_named q h false apart e = seating.named q h e

  by_seated : (q : List ℕ) (h : Head) (b : Bool) → same_fold q fold ≡ b
      → cond b (option_map (head n) now) (row heads q) ≡ Some h
      → option_map (head h.number) (after h.number) ≡ Some h
  by_seated q h true same e = (there_now now refl h e).1
  by_seated q h false apart e = ap (option_map (head h.number)) (kept_elsewhere q apart h e)
      ∙ seating.seated q h e

  by_found : (m : ℕ) (user : User) → m ≢ n → before m ≡ Some user → (b : Bool)
      → same_fold (key user.nick) fold ≡ b → row heads_after (key user.nick) ≡ Some (head m user)
  by_found m user other is true same =
      absurd (other (together.seats m user is (one_fold (key user.nick) fold same)))
  by_found m user other is false apart =
      row-alter_other fold (λ _. option_map (head n) now) heads (key user.nick) apart
      ∙ seating.found m user is

  found_here : (m : ℕ) (user : User) → m ≡ n → after m ≡ Some user
      → row heads_after (key user.nick) ≡ Some (head m user)
  found_here m user same is =
      let sits : now ≡ Some user = sym changes.here ∙ ap after (sym same) ∙ is in
      ap (row heads_after) (together.fits user sits)
      ∙ row-alter_same fold (λ _. option_map (head n) now) heads ∙ ap (option_map (head n)) sits
      ∙ ap (λ k. Some (head k user)) (sym same)

  pub seating_changed : IsSeating after heads_after
  seating_changed = record {
    named = λ q h is. by_named q h (same_fold q fold) refl
        (sym (row-alter fold (λ _. option_map (head n) now) heads q) ∙ is);
    seated = λ q h is. by_seated q h (same_fold q fold) refl
        (sym (row-alter fold (λ _. option_map (head n) now) heads q) ∙ is);
    found = λ m user is. elim (cases_eq m n) [
      | inl same ↦ found_here m user same is
      | inr other ↦ by_found m user other (sym (changes.others m other) ∙ is)
          (same_fold (key user.nick) fold) refl
    ];
  }

-- ---- which seat and fold go together

module _ (sits : ℕ → Option User) (heads : Table Head) (seating : IsSeating sits heads) where
  -- whose head stands at a fold
  sits_there : (fold : List ℕ) (h : Head) → row heads fold ≡ Some h
      → (o : Option User) → sits h.number ≡ o → option_map (head h.number) o ≡ Some h
      → (user : User) × (sits h.number ≡ Some user) × (head h.number user ≡ h)
  sits_there fold h is None at e = absurd (cc)
  sits_there fold h is (Some user) at e = (user, at, cc)

  pub sitter_there : (fold : List ℕ) (h : Head) → row heads fold ≡ Some h
      → (user : User) × (sits h.number ≡ Some user) × (head h.number user ≡ h)
  sitter_there fold h is = sits_there fold h is (sits h.number) refl (seating.seated fold h is)

  -- heads with one number are one
  pub one_head : (one other : List ℕ) (h k : Head) → row heads one ≡ Some h
      → row heads other ≡ Some k → h.number ≡ k.number → h ≡ k
  one_head one other h k is also same =
      let e : Some h ≡ Some k = sym (seating.seated one h is)
      ∙ ap (λ m. option_map (head m) (sits m)) same ∙ seating.seated other k also in cc

  pub folds_one : (one other : List ℕ) (h k : Head) → row heads one ≡ Some h
      → row heads other ≡ Some k → h.number ≡ k.number → one ≡ other
  folds_one one other h k is also same =
      sym (seating.named one h is) ∙ ap (λ (x : Head). key x.nick)
      (one_head one other h k is also same) ∙ seating.named other k also

  -- a seat that is free, and a fold that is
  pub free_together : (n : ℕ) (fold : List ℕ) (user : User) → sits n ≡ None → row heads fold ≡ None
      → key user.nick ≡ fold → GoTogether sits heads n fold (Some user)
  free_together n fold user vacant free fits = record {
    fits = λ u is. ap (λ (x : User). key x.nick) (some_one u user (sym is)) ∙ fits;
    rows = λ q h is one. absurd (none_sits q h is one);
    seats = λ m u is one. absurd (none_stands m u is one);
  }
    where
      some_one : (u v : User) → Some u ≡ Some v → u ≡ v
      some_one u v e = cc

      none_sits : (q : List ℕ) (h : Head) → row heads q ≡ Some h → h.number ≡ n → ⊥
      none_sits q h is one =
          let e : None ≡ Some h = ap (option_map (head n)) (sym vacant)
          ∙ ap (λ m. option_map (head m) (sits m)) (sym one) ∙ seating.seated q h is in cc

      none_stands : (m : ℕ) (u : User) → sits m ≡ Some u → key u.nick ≡ fold → ⊥
      none_stands m u is one =
          let e : None ≡ Some (head m u) =
          sym free ∙ ap (row heads) (sym one) ∙ seating.found m u is in cc

  -- the seat of whoever has a fold, and the fold
  pub his_together : (fold : List ℕ) (h : Head) (now : Option User)
      → row heads fold ≡ Some h → ((user : User) → now ≡ Some user → key user.nick ≡ fold)
      → GoTogether sits heads h.number fold now
  his_together fold h now there fits = record {
    fits = fits;
    rows = λ q k is one. folds_one q fold k h is there one;
    seats = λ m u is one.
        let e : Some (head m u) ≡ Some h = sym (seating.found m u is) ∙ ap (row heads) one
        ∙ there in
        ap (λ (o : Option Head). option_number o) e;
  }
    where
      option_number : Option Head → ℕ
      option_number None = 0
      option_number (Some k) = k.number
