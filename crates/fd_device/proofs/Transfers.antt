-- What was put, one text after another.
use Rattle.std.proofs.Common.{◌≡◌, ℕ, ◌+◌, ◌<◌, ◌≤◌, List, [], ◌++◌, length, take, drop, Option, Bool, true, false, refl, sym, ap, ◌∙◌, arith, subst}
use Rattle.std.proofs.Common.{append_assoc, length-append, append-nil, take-append-drop}
use Rattle.std.proofs.lemmas.Bool.{false≢true}
use Rattle.std.proofs.lemmas.List.{length-take}
use Rattle.std.proofs.KnownBytes.{Appends-trans, Appends-kept}
use Rattle.std.specs.Io.KnownBytes.{Appends, Keeps}
use Rattle.fd_device.specs.Transfer.{Puts}

-- a text that was put whole
pub puts_whole : (old new : Option (List ℕ)) (m n : ℕ) (text : List ℕ) → Appends old new text → n ≡ m + length text → (ok : Bool) → Puts old new m n text ok
puts_whole old new m n text appended counted ok =
    record { taken = text; left = []; whole = sym (append-nil text); appended = appended; counted = counted; all = λ e. refl }

-- a front of a text that was put before a failure
pub puts_front : (old mid new : Option (List ℕ)) (m n : ℕ) (text : List ℕ) (k : ℕ) → k ≤ length text → Appends old mid (take k text) → n ≡ m + k
    → Keeps mid new → Puts old new m n text false
puts_front old mid new m n text k within appended counted kept =
    let size = length-take k text in
    record {
      taken = take k text;
      left = drop k text;
      whole = sym (take-append-drop k text);
      appended = Appends-kept old mid new (take k text) appended kept;
      counted = counted ∙ ap (λ i. m + i) (omega (arith, size));
      all = λ e. absurd (false≢true e);
    }

-- one text after another
pub puts_then : (a b c : Option (List ℕ)) (m n k : ℕ) (first second : List ℕ) (ok : Bool) → Puts a b m n first true → Puts b c n k second ok
    → Puts a c m k (first ++ second) ok
puts_then a b c m n k first second ok p q =
    let none : p.left ≡ [] = p.all refl in
    let is : first ≡ p.taken = p.whole ∙ ap (λ xs. p.taken ++ xs) none ∙ append-nil p.taken in
    record {
      taken = p.taken ++ q.taken;
      left = q.left;
      whole = ap (λ xs. xs ++ second) is ∙ ap (λ xs. p.taken ++ xs) q.whole ∙ sym (append_assoc p.taken q.taken q.left);
      appended = Appends-trans a b c p.taken q.taken p.appended q.appended;
      counted = omega (arith, p.counted, q.counted, length-append p.taken q.taken);
      all = q.all;
    }

-- a text of which a failure left some, and what was to come after it
pub puts_broken : (a b : Option (List ℕ)) (m n : ℕ) (first second : List ℕ) → Puts a b m n first false → Puts a b m n (first ++ second) false
puts_broken a b m n first second p =
    record {
      taken = p.taken;
      left = p.left ++ second;
      whole = ap (λ xs. xs ++ second) p.whole ∙ append_assoc p.taken p.left second;
      appended = p.appended;
      counted = p.counted;
      all = λ e. absurd (false≢true e);
    }

-- all of a text that was put whole
pub puts_all : (a b : Option (List ℕ)) (m n : ℕ) (text : List ℕ) → Puts a b m n text true → Appends a b text × (n ≡ m + length text)
puts_all a b m n text p =
    let is : p.taken ≡ text = sym (p.whole ∙ ap (λ xs. p.taken ++ xs) (p.all refl) ∙ append-nil p.taken) in
    (subst (Appends a b) is p.appended, p.counted ∙ ap (λ xs. m + length xs) is)

pub puts_from_front : (a b : Option (List ℕ)) (m sent : ℕ) (text : List ℕ) → sent < length text → Appends a b (take sent text)
    → Puts a b m (m + sent) text false
puts_from_front a b m sent text within appended =
    let size : length (take sent text) ≡ sent = omega (arith, length-take sent text) in
    record {
      taken = take sent text;
      left = drop sent text;
      whole = sym (take-append-drop sent text);
      appended = appended;
      counted = ap (λ i. m + i) (sym size);
      all = λ e. absurd (false≢true e);
    }
