-- Lists of operations that cross.
use Rattle.std.proofs.Common.{◌≡◌, List, [], ◌∷◌, ◌++◌, length, suc, refl, sym, ap, subst, ◌∙◌}
use Rattle.irc_documents.specs.Editing.{Editing, Meet, HasDiamond}
use Rattle.irc_documents.specs.Lists.{all_done, AllMay, through, behind, Meets}
use Rattle.irc_documents.specs.Lists.{all_through, behind_all, AllMeet}
use Rattle.irc_documents.specs.Laws.{ListsMeet, GridTurns, PiecesMeet, PiecesHaveDiamond}

module _ {Doc Op : Type 0} (e : Editing Doc Op) where
  pub through_both : (s : Doc) (b : Op) (xs ys : List Op)
      → through e s b (xs ++ ys) ≡ through e (all_done e s xs) (through e s b xs) ys
  through_both s b [] ys = refl
  through_both s b (x ∷ xs) ys = through_both (e.done s x) (e.crossed s b x) xs ys

  pub both_behind : (s : Doc) (xs ys : List Op) (b : Op)
      → behind e s (xs ++ ys) b
      ≡ behind e s xs b ++ behind e (all_done e s xs) ys (through e s b xs)
  both_behind s [] ys b = refl
  both_behind s (x ∷ xs) ys b =
      ap (λ more. e.crossed s x b ∷ more) (both_behind (e.done s x) xs ys (e.crossed s b x))

  pub as_many_behind : (s : Doc) (xs : List Op) (b : Op) → length (behind e s xs b) ≡ length xs
  as_many_behind s [] b = refl
  as_many_behind s (x ∷ xs) b = ap suc (as_many_behind (e.done s x) xs (e.crossed s b x))

  -- ---- one operation and a log

  pub turn : (s : Doc) (a b : Op) → Meet e s a b → Meet e s b a
  turn s a b m = record { same = sym m.same; b_may = m.a_may; a_may = m.b_may }

  pub meets_all : HasDiamond e → (s : Doc) (log : List Op) (b : Op) → AllMay e s log → e.may s b
      → Meets e s log b
  meets_all d s [] b m n = tt
  meets_all d s (a ∷ log) b m n = (
    record {
      same = d.same s a b m.0 n;
      b_may = d.may_behind s a b m.0 n;
      a_may = d.may_behind s b a n m.0;
    },
    meets_all d (e.done s a) log (e.crossed s b a) m.1 (d.may_behind s a b m.0 n),
  )

  pub meets_join : (s : Doc) (xs ys : List Op) (b : Op) → Meets e s xs b
      → Meets e (all_done e s xs) ys (through e s b xs) → Meets e s (xs ++ ys) b
  meets_join s [] ys b m n = n
  meets_join s (x ∷ xs) ys b m n =
      (m.0, meets_join (e.done s x) xs ys (e.crossed s b x) m.1 n)

  pub meets_rest : (s : Doc) (xs ys : List Op) (b : Op) → Meets e s (xs ++ ys) b
      → Meets e (all_done e s xs) ys (through e s b xs)
  meets_rest s [] ys b m = m
  meets_rest s (x ∷ xs) ys b m = meets_rest (e.done s x) xs ys (e.crossed s b x) m.1

  pub record Crosses (s : Doc) (log : List Op) (b : Op) : Type 0 where
    pub same : all_done e (e.done s b) (behind e s log b)
        ≡ e.done (all_done e s log) (through e s b log)
    pub through_may : e.may (all_done e s log) (through e s b log)
    pub behind_may : AllMay e (e.done s b) (behind e s log b)

  pub crosses : (s : Doc) (log : List Op) (b : Op) → e.may s b → Meets e s log b
      → Crosses s log b
  crosses s [] b n m = record { same = refl; through_may = n; behind_may = tt }
  crosses s (a ∷ log) b n m =
      let one = m.0 in
      let rest = crosses (e.done s a) log (e.crossed s b a) one.b_may m.1 in
      record {
        same = ap (λ t. all_done e t (behind e (e.done s a) log (e.crossed s b a))) (sym one.same)
            ∙ rest.same;
        through_may = rest.through_may;
        behind_may = (
          one.a_may,
          subst (λ t. AllMay e t (behind e (e.done s a) log (e.crossed s b a))) one.same
              rest.behind_may,
        );
      }

  -- ---- two lists

  pub lists_meet : ListsMeet e
  lists_meet s ours [] m n met = record { same = refl; theirs_may = tt; ours_may = m }
  lists_meet s ours (b ∷ theirs) m n met =
      let one = crosses s ours b n.0 met.0 in
      let rest = lists_meet (e.done s b) (behind e s ours b) theirs one.behind_may n.1 met.1 in
      record {
        same = ap (λ t. all_done e t (all_through e (e.done s b) theirs (behind e s ours b)))
            (sym one.same)
            ∙ rest.same;
        theirs_may = (
          one.through_may,
          subst (λ t. AllMay e t (all_through e (e.done s b) theirs (behind e s ours b))) one.same
              rest.theirs_may,
        );
        ours_may = rest.ours_may;
      }

  pub all_meet : HasDiamond e → (s : Doc) (ours theirs : List Op) → AllMay e s ours
      → AllMay e s theirs → AllMeet e s ours theirs
  all_meet d s ours [] m n = tt
  all_meet d s ours (b ∷ theirs) m n =
      let met = meets_all d s ours b m n.0 in (
        met,
        all_meet d (e.done s b) (behind e s ours b) theirs (crosses s ours b n.0 met).behind_may
            n.1,
      )

  -- ---- the grid, gone along the other way

  none_behind : (s : Doc) (theirs : List Op) → behind_all e s [] theirs ≡ []
  none_behind s [] = refl
  none_behind s (b ∷ theirs) = none_behind (e.done s b) theirs

  first_behind : (s : Doc) (a : Op) (ours theirs : List Op) → AllMeet e s (a ∷ ours) theirs
      → behind_all e s (a ∷ ours) theirs
      ≡ through e s a theirs ∷ behind_all e (e.done s a) ours (behind e s theirs a)
  first_behind s a ours [] met = refl
  first_behind s a ours (b ∷ theirs) met =
      let more = behind e (e.done s a) ours (e.crossed s b a) in
      let rest = behind e (e.done s b) theirs (e.crossed s a b) in
      first_behind (e.done s b) (e.crossed s a b) more theirs met.1
      ∙ ap (λ t. through e s a (b ∷ theirs) ∷ behind_all e t more rest) (sym met.0.0.same)

  -- without the first of ours
  others_meet : (s : Doc) (a : Op) (ours theirs : List Op) → AllMeet e s (a ∷ ours) theirs
      → AllMeet e (e.done s a) ours (behind e s theirs a)
  others_meet s a ours [] met = tt
  others_meet s a ours (b ∷ theirs) met =
      let more = behind e (e.done s a) ours (e.crossed s b a) in
      let rest = behind e (e.done s b) theirs (e.crossed s a b) in (
        met.0.1,
        subst (λ t. AllMeet e t more rest) (sym met.0.0.same)
            (others_meet (e.done s b) (e.crossed s a b) more theirs met.1),
      )

  pub grid_turns : GridTurns e
  grid_turns s [] theirs met = none_behind s theirs
  grid_turns s (a ∷ ours) theirs met =
      first_behind s a ours theirs met
      ∙ ap (λ more. through e s a theirs ∷ more)
      (grid_turns (e.done s a) ours (behind e s theirs a) (others_meet s a ours theirs met))

  pub pieces_meet : PiecesMeet e
  pieces_meet s ours theirs m n met cut =
      let cross = lists_meet s ours theirs m n met in
      let turned = grid_turns s ours theirs met in
      record {
        same = cross.same ∙ ap (all_done e (all_done e s theirs)) turned;
        b_may = cross.theirs_may;
        a_may = subst (AllMay e (all_done e s theirs)) turned cross.ours_may;
      }

  pub pieces_have_diamond : PiecesHaveDiamond e
  pieces_have_diamond d cut = record {
    same = λ s a b m n. (pieces_meet s a b m n (all_meet d s a b m n) cut).same;
    may_behind = λ s a b m n. (pieces_meet s a b m n (all_meet d s a b m n) cut).b_may;
  }
