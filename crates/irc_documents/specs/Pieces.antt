-- Pieces: operations that come together are one operation on the same documents.
--
-- In the register 0 one end does 3 and then 7 in one piece, the other 5 and then 1. The second
-- behind the first is nothing and nothing: the 7 is greater than the 5, and than the 1 over it.
-- The first behind the second is nothing, and then 7. Both have 7.
use Rattle.std.specs.Prelude.{◌≡◌, List, [], ◌∷◌, ◌++◌}
use Rattle.std.proofs.Common.{refl, sym, ap, subst, ◌∙◌}
use Rattle.std.specs.List.{flat_map}
use Rattle.irc_documents.specs.Editing.{made_of, CanBeMade, DoTheSame, Editing}
use Rattle.irc_documents.specs.Lists.{all_done, AllMay, all_through}
use Rattle.irc_documents.specs.Lemmas.OneBehindAnother.{done_behind, may_join, may_front}
use Rattle.irc_documents.specs.Lemmas.OneBehindAnother.{may_rest}

-- all that is in some pieces
abbrev pub in_all : {Op : Type 0} → List (List Op) → List Op
in_all [] = []
in_all (piece ∷ pieces) = piece ++ in_all pieces

module _ {Doc Op : Type 0} (e : Editing Doc Op) where
  -- how a server cuts what it passes on into pieces: they have in them what the operations of the
  -- piece are passed on as, in that order
  pub record Cut : Type 0 where
    pub cut : List Op → List (List Op)
    pub has_all : (ops : List Op) → in_all (cut ops) ≡ flat_map e.told_as ops

  -- ---- what is cut does the same

  -- one by one
  record EachWhole (s : Doc) (ops : List Op) : Type 0 where
    same : all_done e s (flat_map e.told_as ops) ≡ all_done e s ops
    may : AllMay e s (flat_map e.told_as ops)

  each_whole : (s : Doc) (ops : List Op) → AllMay e s ops → EachWhole s ops
  each_whole s [] m = record { same = refl; may = tt }
  each_whole s (op ∷ ops) m =
      let one = e.told_whole s op m.0 in
      let rest = each_whole (e.done s op) ops m.1 in
      let more = flat_map e.told_as ops in
      record {
        same = done_behind e s (e.told_as op) more ∙ ap (λ t. all_done e t more) one.same
            ∙ rest.same;
        may = may_join e s (e.told_as op) more one.may_all
            (subst (λ t. AllMay e t more) (sym one.same) rest.may);
      }

  -- piece by piece
  pieces_done : (s : Doc) (pieces : List (List Op))
      → made_of (all_done e) s pieces ≡ all_done e s (in_all pieces)
  pieces_done s [] = refl
  pieces_done s (piece ∷ pieces) =
      pieces_done (all_done e s piece) pieces ∙ sym (done_behind e s piece (in_all pieces))

  pieces_may : (s : Doc) (pieces : List (List Op)) → AllMay e s (in_all pieces)
      → CanBeMade (all_done e) (AllMay e) s pieces
  pieces_may s [] m = tt
  pieces_may s (piece ∷ pieces) m = (
    may_front e s piece (in_all pieces) m,
    pieces_may (all_done e s piece) pieces (may_rest e s piece (in_all pieces) m),
  )

  pub cut_whole : (c : Cut) (s : Doc) (ops : List Op) → AllMay e s ops
      → DoTheSame (all_done e) (AllMay e) s ops (c.cut ops)
  cut_whole c s ops m =
      let each = each_whole s ops m in
      record {
        same = pieces_done s (c.cut ops) ∙ ap (all_done e s) (c.has_all ops) ∙ each.same;
        may_all = pieces_may s (c.cut ops)
            (subst (AllMay e s) (sym (c.has_all ops)) each.may);
      }

  -- operations one behind another; a piece behind a piece is each of its operations behind all of
  -- the other's
  abbrev pub in_pieces : Cut → Editing Doc (List Op)
  in_pieces c = record {
    blank = e.blank;
    done = all_done e;
    may = AllMay e;
    crossed = all_through e;
    told_as = c.cut;
    told_whole = cut_whole c;
  }
