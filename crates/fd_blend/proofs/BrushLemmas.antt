-- One source over many destinations.
use Rattle.std.proofs.Common.{◌≡◌, ◌+◌, ℕ, zero, suc, ◌<◌, ◌≤◌, ◌*◌, ◌/◌, Bool, true, false, not, ◌&&◌, ◌==◌, if◌then◌else◌, List, [], ◌∷◌, length}
use Rattle.std.proofs.Common.{get_or, set, map, replicate, refl, sym, ap, ◌∙◌, arith}
use Rattle.fd_blend.specs.declared.channel.Colour.{Colour}
use Rattle.fd_blend.specs.declared.channel.Channel.{Channel}
use Rattle.fd_blend.specs.declared.equation.Factor.{Factor}
use Rattle.fd_blend.specs.declared.equation.Factor.TheVariants.{Zero, One, SrcColor, InvSrcColor, SrcAlpha, InvSrcAlpha, DestAlpha, InvDestAlpha}
use Rattle.fd_blend.specs.declared.equation.Factor.TheVariants.{DestColor, InvDestColor, BlendFactor, InvBlendFactor}
use Rattle.fd_blend.specs.declared.equation.Part.{Part}
use Rattle.fd_blend.specs.Blend.{blend, replaces}
use Rattle.fd_blend.specs.Blending.{Blending}
use Rattle.fd_blend.specs.declared.equation.BlendOp.{BlendOp}
use Rattle.fd_blend.specs.declared.equation.BlendOp.TheVariants.{Add, Subtract, RevSubtract, Min, Max}
use Rattle.fd_blend.specs.Channel.{channel_of}
use Rattle.fd_blend.specs.Equation.{factor_value, looks_at_destination, is_add, adds_unseen}
use Rattle.fd_blend.specs.Vectors.{units}
use Rattle.fd_blend.specs.Resolved.{bit, weighted_channel}
use Rattle.fd_blend.proofs.ResolvedLemmas.{channel_by}
use Rattle.fd_blend.proofs.RowLemmas.{blend_replaced}

-- ---- factors that do not come from the destination

pub same_value : (f : Factor) (channel : Channel) (factor s d e : Colour) → looks_at_destination f ≡ false → factor_value f channel factor s d
    ≡ factor_value f channel factor s e
same_value Zero channel factor s d e h = refl
same_value One channel factor s d e h = refl
same_value SrcColor channel factor s d e h = refl
same_value InvSrcColor channel factor s d e h = refl
same_value SrcAlpha channel factor s d e h = refl
same_value InvSrcAlpha channel factor s d e h = refl
same_value DestAlpha channel factor s d e h = absurd (cc)
same_value InvDestAlpha channel factor s d e h = absurd (cc)
same_value DestColor channel factor s d e h = absurd (cc)
same_value InvDestColor channel factor s d e h = absurd (cc)
same_value BlendFactor channel factor s d e h = refl
same_value InvBlendFactor channel factor s d e h = refl

each_of_three : (a b c : Bool) → (a && (not b && not c)) ≡ true → (a ≡ true) × ((b ≡ false) × (c ≡ false))
each_of_three true false false h = (refl, (refl, refl))
each_of_three false b c h = absurd (cc)
each_of_three true true c h = absurd (cc)
each_of_three true false true h = absurd (cc)

op_is_add : (op : BlendOp) → is_add op ≡ true → op ≡ Add
op_is_add Add h = refl
op_is_add Subtract h = absurd (cc)
op_is_add RevSubtract h = absurd (cc)
op_is_add Min h = absurd (cc)
op_is_add Max h = absurd (cc)

pub record AddsUnseen (part : Part) : Type 0 where
  pub adds : part.op ≡ Add
  pub src : looks_at_destination part.src ≡ false
  pub dst : looks_at_destination part.dst ≡ false

pub known_adds : (part : Part) → adds_unseen part ≡ true → AddsUnseen part
known_adds part h =
    let each = each_of_three (is_add part.op) (looks_at_destination part.src) (looks_at_destination part.dst) h in record {
      adds = op_is_add part.op each.0;
      src = each.1.0;
      dst = each.1.1;
    }

-- an element of a channel, its factors as they are over the destination that is seen
pub added_by : (w : Bool) (part : Part) (channel : Channel) (factor s d e : Colour) → adds_unseen part ≡ true
    → (if bit w == 0 then channel_of channel d
    else (units Add (channel_of channel s * factor_value part.src channel factor s e) (channel_of channel d * factor_value part.dst channel factor s e)
    + 127) / 255)
    ≡ (if w then weighted_channel part channel factor s d else channel_of channel d)
added_by w part channel factor s d e h =
    let known = known_adds part h in
    channel_by w Add (channel_of channel s) (channel_of channel d) (same_value part.src channel factor s e d known.src)
    (same_value part.dst channel factor s e d known.dst)
    ∙ ap (λ op. if w then (units op (channel_of channel s * factor_value part.src channel factor s d)
    (channel_of channel d * factor_value part.dst channel factor s d) + 127) / 255 else channel_of channel d) (sym known.adds)

-- ---- the loop over a row

-- a row of which the first n pixels are changed
pub changed_upto : (Colour → Colour) → ℕ → List Colour → List Colour
changed_upto f zero row = row
changed_upto f (suc n) [] = []
changed_upto f (suc n) (c ∷ row) = f c ∷ changed_upto f n row

pub none_changed : (f : Colour → Colour) (row : List Colour) → changed_upto f 0 row ≡ row
unfolding changed_upto
none_changed f row = refl

pub all_changed : (f : Colour → Colour) (n : ℕ) (row : List Colour) → n ≡ length row → changed_upto f n row ≡ map f row
unfolding changed_upto
all_changed f zero [] all = refl
all_changed f (suc n) [] all = refl
all_changed f zero (c ∷ row) all = absurd (omega arith)
all_changed f (suc n) (c ∷ row) all = ap (λ rest. f c ∷ rest) (all_changed f n row (omega arith))

pub not_yet_changed : (f : Colour → Colour) (n k : ℕ) (row : List Colour) (e : Colour) → n ≤ k → get_or (changed_upto f n row) k e ≡ get_or row k e
unfolding changed_upto
not_yet_changed f zero k row e h = refl
not_yet_changed f (suc n) k [] e h = refl
not_yet_changed f (suc n) zero (c ∷ row) e h = absurd (omega arith)
not_yet_changed f (suc n) (suc k) (c ∷ row) e h = not_yet_changed f n k row e (omega arith)

pub one_more : (f : Colour → Colour) (n : ℕ) (row : List Colour) (e : Colour) → n < length row → set (changed_upto f n row) n (f (get_or row n e))
    ≡ changed_upto f (suc n) row
unfolding changed_upto
one_more f n [] e h = absurd (omega arith)
one_more f zero (c ∷ row) e h = refl
one_more f (suc n) (c ∷ row) e h = ap (λ rest. f c ∷ rest) (one_more f n row e (omega arith))

pub two_more : (f : Colour → Colour) (n m : ℕ) (row : List Colour) (e e' : Colour) → n + 1 < length row → m ≡ n + 2
    → set (set (changed_upto f n row) n (f (get_or row n e))) (n + 1) (f (get_or row (n + 1) e')) ≡ changed_upto f m row
two_more f n m row e e' h is =
    let next : n + 1 ≡ suc n = omega arith in
    let last : m ≡ suc (suc n) = omega arith in
    rw (next, last, one_more f n row e (omega arith)) (one_more f (suc n) row e' (omega arith))

-- a source that takes the destination's place
pub all_replaced : (state : Blending) (factor s : Colour) (row : List Colour) → replaces state ≡ true → replicate (length row) s
    ≡ map (blend state factor s) row
all_replaced state factor s [] h = refl
all_replaced state factor s (c ∷ row) h = (λ i. sym (blend_replaced state factor s c h) i ∷ all_replaced state factor s row h i)
