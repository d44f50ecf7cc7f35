-- Lines that are gathered, one after another.
use Rattle.std.proofs.Common.{◌≡◌, ℕ, List, ◌++◌, Option, Bool, true, false, sym, ap, ◌∙◌, arith, subst, append_assoc, length-append}
use Rattle.std.proofs.KnownBytes.{Appends-trans}
use Rattle.fd_device.specs.Transfer.{Puts}
use Rattle.fd_words.specs.Sending.{Waits}
use Rattle.fd_device.proofs.Transfers.{puts_whole, puts_then, puts_broken}

-- what waits is gathered further
pub waits_then : (a b c : Option (List ℕ)) (m n k : ℕ) (front line before after : List ℕ) → Waits a b m n front before → Waits b c n k (before ++ line) after
    → Waits a c m k (front ++ line) after
waits_then a b c m n k front line before after p q =
    record {
      gone = p.gone ++ q.gone;
      whole = ap (λ xs. xs ++ line) p.whole ∙ append_assoc p.gone before line ∙ ap (λ xs. p.gone ++ xs) q.whole ∙ sym (append_assoc p.gone q.gone after);
      appended = Appends-trans a b c p.gone q.gone p.appended q.appended;
      counted = omega (arith, p.counted, q.counted, length-append p.gone q.gone);
    }

sent_before : (a b : Option (List ℕ)) (m n : ℕ) (front before : List ℕ) (p : Waits a b m n front before) → Puts a b m n p.gone true
sent_before a b m n front before p = puts_whole a b m n p.gone p.appended p.counted true

-- the sink fails among what waits, before the lines to come
pub waits_broken : (a b c : Option (List ℕ)) (m n k : ℕ) (front line rest whole before : List ℕ) → Waits a b m n front before
    → Puts b c n k (before ++ line) false
    → front ++ (line ++ rest) ≡ whole → Puts a c m k whole false
waits_broken a b c m n k front line rest whole before p broken is =
    subst (λ text. Puts a c m k text false)
    (sym (append_assoc (p.gone) (before ++ line) rest) ∙ ap (λ xs. xs ++ rest) (sym (append_assoc p.gone before line) ∙ ap (λ xs. xs ++ line) (sym p.whole))
    ∙ append_assoc front line rest ∙ is)
    (puts_then a b c m n k p.gone ((before ++ line) ++ rest) false (sent_before a b m n front before p) (puts_broken b c n k (before ++ line) rest broken))

-- what waits is sent
pub waits_sent : (a b c : Option (List ℕ)) (m n k : ℕ) (text waiting : List ℕ) (ok : Bool) → Waits a b m n text waiting → Puts b c n k waiting ok
    → Puts a c m k text ok
waits_sent a b c m n k text waiting ok p q =
    subst (λ t. Puts a c m k t ok) (sym p.whole) (puts_then a b c m n k p.gone waiting ok (sent_before a b m n text waiting p) q)
