-- What is printed in turn, and what is lost.
use Rattle.std.proofs.Common.{◌≡◌, ℕ, true, false, Option, Result, Ok, Err, IsErr, OnOk, List, []}
use Rattle.std.proofs.Common.{◌++◌, ap, sym, subst, refl, ◌∙◌, append_assoc, append-nil}
use Rattle.std.specs.Io.KnownBytes.{Appends, Keeps}
use Rattle.irc_script.specs.declared.fault.Unwritten.{Unwritten}
use Rattle.irc_script.specs.Sinks.{Sink, sink, Prints, Loses, IsPrinted, Wrote}
use Rattle.irc_script.specs.Lemmas.Printed.{appends_nothing, appends_both, keeps_appended}

pub prints_nothing : (s : Sink) → Prints s s []
prints_nothing s =
    record { written = []; appended = appends_nothing s.held; whole = append-nil s.waiting }

-- what waits in front of two texts, of which the first makes it other bytes
two_whole : (w s t a v b z : List ℕ) → w ++ s ≡ a ++ v → v ++ t ≡ b ++ z
    → w ++ (s ++ t) ≡ (a ++ b) ++ z
two_whole w s t a v b z e f =
    sym (append_assoc w s t) ∙ ap (λ x. x ++ t) e ∙ append_assoc a v t ∙ ap (λ x. a ++ x) f
    ∙ sym (append_assoc a b z)

pub prints_both : {a b c : Sink} {s t : List ℕ} → Prints a b s → Prints b c t → Prints a c (s ++ t)
prints_both {a = a} {b = b} {c = c} {s = s} {t = t} p q = record {
  written = p.written ++ q.written;
  appended = appends_both a.held b.held c.held p.written q.written p.appended q.appended;
  whole = two_whole a.waiting s t p.written b.waiting q.written c.waiting p.whole q.whole;
}

abbrev pub no_loss : {a b : Sink} {s : List ℕ} → Prints a b s → Loses a b s
no_loss {b = b} p =
    record {
      lost = [];
      prints = record {
        written = p.written;
        appended = p.appended;
        whole = p.whole
            ∙ ap (λ w. p.written ++ w) (sym (append-nil b.waiting));
      };
    }

-- nothing is printed, and the whole text is lost
abbrev pub all_lost : (s : Sink) (text : List ℕ) → Loses s s text
all_lost s text = record {
  lost = text;
  prints = record { written = []; appended = appends_nothing s.held; whole = refl };
}

-- what would have come behind is lost too
pub loses_more : {a b : Sink} {s : List ℕ} (t : List ℕ) → Loses a b s → Loses a b (s ++ t)
loses_more {a = a} {b = b} {s = s} t p = record {
  lost = p.lost ++ t;
  prints = record {
    written = p.prints.written;
    appended = p.prints.appended;
    whole = sym (append_assoc a.waiting s t) ∙ ap (λ x. x ++ t) p.prints.whole
        ∙ append_assoc p.prints.written (b.waiting ++ p.lost) t
        ∙ ap (λ x. p.prints.written ++ x) (append_assoc b.waiting p.lost t);
  };
}

abbrev pub prints_loses : {a b c : Sink} {s t : List ℕ} → Prints a b s → Loses b c t
    → Loses a c (s ++ t)
prints_loses p q = record { lost = q.lost; prints = prints_both p q.prints }

pub lost_twice : (w s a v l b z m : List ℕ) → w ++ s ≡ a ++ (v ++ l) → v ++ [] ≡ b ++ (z ++ m)
    → w ++ s ≡ (a ++ b) ++ (z ++ (m ++ l))
lost_twice w s a v l b z m e f =
    e ∙ ap (λ x. a ++ (x ++ l)) (sym (append-nil v) ∙ f)
    ∙ ap (λ x. a ++ x) (append_assoc b (z ++ m) l ∙ ap (λ x. b ++ x) (append_assoc z m l))
    ∙ sym (append_assoc a b (z ++ (m ++ l)))

-- what waits is written, or lost
abbrev pub loses_on : {a b c : Sink} {s : List ℕ} → Loses a b s → Loses b c [] → Loses a c s
loses_on {a = a} {b = b} {c = c} {s = s} p q = record {
  lost = q.lost ++ p.lost;
  prints = record {
    written = p.prints.written ++ q.prints.written;
    appended = appends_both a.held b.held c.held p.prints.written q.prints.written p.prints.appended
        q.prints.appended;
    whole = lost_twice a.waiting s p.prints.written b.waiting p.lost q.prints.written c.waiting
        q.lost p.prints.whole q.prints.whole;
  };
}

pub prints_kept : {a b : Sink} {s : List ℕ} (held : Option (List ℕ)) → Prints a b s
    → Keeps b.held held → Prints a (sink held b.waiting) s
prints_kept {a = a} {b = b} held p k = record {
  written = p.written;
  appended = keeps_appended a.held b.held held p.written p.appended k;
  whole = p.whole;
}

pub loses_kept : {a b : Sink} {s : List ℕ} (held : Option (List ℕ)) → Loses a b s
    → Keeps b.held held → Loses a (sink held b.waiting) s
loses_kept held p k = record { lost = p.lost; prints = prints_kept held p.prints k }

pub printing_failed : (r : Result (Unit {0}) Unwritten) (a b : Sink) (s : List ℕ) → IsErr r
    → Loses a b s → IsPrinted r a b s
printing_failed (Ok _) a b s failed p = let never : false ≡ true = failed in cc never
printing_failed (Err fault) a b s failed p = p

-- nothing waits in front, and nothing is left to wait
pub whole_appended : (old new : Option (List ℕ)) (text : List ℕ)
    → Prints (sink old []) (sink new []) text → Appends old new text
whole_appended old new text p =
    subst (λ bytes. Appends old new bytes) (sym (p.whole ∙ append-nil p.written)) p.appended

-- all that waited was written, or is lost
pub written_off : (r : Result (Unit {0}) Unwritten) (old new : Option (List ℕ))
    (text waiting after : List ℕ) → text ≡ waiting → after ≡ [] → OnOk r (Appends old new text)
    → Wrote old new text → IsPrinted r (sink old waiting) (sink new after) []
written_off (Ok _) old new text waiting after e f p q =
    record {
      written = text;
      appended = p;
      whole = append-nil waiting ∙ sym e
          ∙ sym (append-nil text) ∙ ap (λ a. text ++ a) (sym f);
    }
written_off (Err fault) old new text waiting after e f p q = record {
  lost = q.lost;
  prints = record {
    written = q.prints.written;
    appended = q.prints.appended;
    whole = append-nil waiting ∙ sym e ∙ q.prints.whole
        ∙ ap (λ a. q.prints.written ++ (a ++ q.lost)) (sym f);
  };
}

-- what comes of a text behind one that is printed
pub printed_behind : (r : Result (Unit {0}) Unwritten) (a b c : Sink) (s t : List ℕ) → Prints a b s
    → IsPrinted r b c t → IsPrinted r a c (s ++ t)
printed_behind (Ok _) a b c s t p q = prints_both p q
printed_behind (Err fault) a b c s t p q = prints_loses p q

-- bytes that are written where nothing waits
pub written_out : (r : Result (Unit {0}) Unwritten) (old new : Option (List ℕ))
    (bytes after : List ℕ) → after ≡ [] → OnOk r (Appends old new bytes) → Wrote old new bytes
    → IsPrinted r (sink old []) (sink new after) bytes
written_out (Ok _) old new bytes after none whole front =
    record {
      written = bytes;
      appended = whole;
      whole = sym (append-nil bytes)
          ∙ ap (λ a. bytes ++ a) (sym none);
    }
written_out (Err fault) old new bytes after none whole front =
    subst (λ a. Loses (sink old []) (sink new a) bytes) (sym none) front
