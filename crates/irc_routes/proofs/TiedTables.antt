-- Both tables of the code tell the same after each change.
use Rattle.std.proofs.Common.{◌≡◌, ℕ, List, [], refl, sym, ◌∙◌, ap, subst, Some, None}
use Rattle.std.proofs.lemmas.Bool.{or_parts}
use Rattle.irc_names.specs.Names.{IsServer}
use Rattle.irc_tables.specs.FoldedRows.{table_of, IsInFoldedOrder}
use Rattle.irc_tables.specs.Lemmas.RowsAsTable.{alter-absent}
use Rattle.irc_routes.specs.About.{About, IsAbout}
use Rattle.irc_routes.specs.Adding.{added_fault}
use Rattle.irc_routes.specs.Known.{Known, ServerRow, row_of, token_in, without_server, without_link}
use Rattle.irc_routes.specs.Known.{IsNumbered}
use Rattle.irc_routes.specs.Loops.Rows.{entry, known_by, IsKept, HasMore}
use Rattle.irc_routes.specs.Loops.Tokens.{TokenRow, token_entry, row_at, HasServer, IsWithoutToken}
use Rattle.irc_routes.specs.Loops.Tokens.{AreElsewhere, AreTold, IsTied}
use Rattle.irc_routes.specs.Lemmas.KeptRows.{alone_is, alone_kept}
use Rattle.irc_routes.specs.Lemmas.NumberedRows.{admitted, map_none}
use Rattle.irc_routes.proofs.FoundByNumber.{nobody_of}
use Rattle.irc_routes.proofs.TokensTold.{told_alone, told_added, told_forgotten, told_lost}

pub alone_tied : (name : List ℕ) (about : About) (rows : List ServerRow) (tokens : List TokenRow)
    → rows ≡ [] → tokens ≡ [] → IsServer name → IsAbout about → IsTied name about rows tokens
alone_tied name about rows tokens none untold rule limits = record {
  kept = alone_kept name about rows none rule limits;
  told = subst (λ known. AreTold known tokens) (sym (alone_is name about rows none))
      (told_alone name about tokens untold);
}

module _ (name : List ℕ) (about : About) (rows : List ServerRow) (tokens : List TokenRow)
    (tied : IsTied name about rows tokens) where
  abbrev before : Known
  before = known_by name about rows

  -- a number that stands for no server has no row
  pub unused_at : (link token : ℕ) → token_in before link token ≡ None
      → row_at tokens link token ≡ None
  unused_at link token unused = map_none (λ (t : TokenRow). t.name) (row_at tokens link token)
      (tied.told.told link token ∙ unused)

  module _ (left : List ServerRow) (now : List TokenRow)
      (after : IsKept name about left) where
    pub added_tied : (new : ServerRow) (called : List ℕ) → new.name ≡ called
        → added_fault before called ≡ None → HasMore new rows left → HasServer new tokens now
        → IsTied name about left now
    added_tied new called named admits is has =
        let more = ap (λ t. record before { rows = t }) is in
        let absent =
        nobody_of (row_of before called) (or_parts _ _ (admitted before called admits).new).1 in
        let is_new = ap (row_of before) named ∙ absent in
        record {
          kept = after;
          told = subst (λ known. AreTold known now) (sym more) (told_added before new is_new
              tied.kept.numbered (subst IsNumbered more after.numbered) tokens now
              (record { link = new.link; token = new.token; name = new.name }) tied.told refl refl
              refl has.told has.ordered);
        }

    pub lost_tied : (link : ℕ) → known_by name about left ≡ without_link link before
        → AreElsewhere link tokens now → IsTied name about left now
    lost_tied link is elsewhere = record {
      kept = after;
      told = subst (λ known. AreTold known now) (sym is)
          (told_lost before link tied.kept.numbered
          (subst IsNumbered is after.numbered) tokens now tied.told elsewhere);
    }

    pub forgotten_tied : (gone : List ℕ) (server : ServerRow)
        → known_by name about left ≡ without_server gone before
        → row_of before gone ≡ Some server → IsWithoutToken server.link server.token tokens now
        → IsInFoldedOrder token_entry now → IsTied name about left now
    forgotten_tied gone server is stood without ordered =
        let named = (tied.kept.numbered.rows gone server stood).named in
        let same = is ∙ ap (λ n. without_server n before) (sym named) in
        record {
          kept = after;
          told = subst (λ known. AreTold known now) (sym same)
              (told_forgotten before server (ap (row_of before) named ∙ stood) tied.kept.numbered
              (subst IsNumbered same after.numbered) tokens now tied.told without ordered);
        }

  -- where no server was forgotten both tables stay
  pub unknown_tied : (gone : List ℕ) (left : List ServerRow) → IsKept name about left
      → known_by name about left ≡ without_server gone before → row_of before gone ≡ None
      → IsTied name about left tokens
  unknown_tied gone left after is none = record {
    kept = after;
    told = subst (λ known. AreTold known tokens) (sym (is ∙ ap (λ t. record before { rows = t })
        (alter-absent (table_of entry rows) gone none))) tied.told;
  }
