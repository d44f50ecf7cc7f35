-- `part_mut` lends a run of elements, and the Vec follows it, for every T. Assumes `Logic`.
use mathlib.Core.Path.{◌≡◌, refl, sym, ap, subst, ◌∙◌}
use Prim.Native.Nat.{ℕ, zero, suc, ◌+◌, ◌-◌, ◌*◌, ◌^◌, ◌<◌, ◌≤◌}
use native.Mathlib.Nat.{mul-le-mul_right, zero-mul, suc-mul}
use native.Mathlib.Omega.{arith}
use mathlib.Core.List.{List, [], ◌∷◌, ◌++◌}
use lib.ListN.{length, take, drop as drop_list, take-append-drop, length-drop, length-append}
use lib.Seq.{take_at}
use seplogic.Ra.Ura.{Ura}
use mir.Syntax.{Args, Dict, named, w64, a_type, dcons, dnil}
use mir.MapTy.{inst_fn}
use mir.Val.{Val, vint}
use base.Logic.{SProp, ent, sep, ex, emp, id⊢}
use base.Stored.{coded_list}
use base.Fml.{Lft, GName, Share, ftrue, flft, fobs, fbor}
use prog.Memory.{size, capped}
use prog.Capped.{capped_is}
use types.Logic.{Logic, sem}
use contract.BorrowLft.{◌⊑◌}
use contract.Monad.{fact, fact_i}
use contract.Running.{tables}
use types.Kit.{use0, Item, mean, ‵, ◌⊛◌, raw, given, some, later, ◌$◌, ◌∵◌, !, qed, move, keep, drop, split, split3, join, group, learn, rewrite}
use types.Kit.{updating, now, show, fsplit, fsplit3, fjoin, feq_i, feq_l, use1, use2, await, pick, suffices, frame, done}
use types.Part.{whole, sub, agg}
use types.Run.{stop, fld, addr, bin, and_then, no_more, returns, enter, size_word}
use types.ByLocal.{alloc_all, pass_all, free_all, look_at, get, get_in, is as is_now, through, sets, lands_as}
use types.SemTy.{cells, Arr, Body}
use types.Follow.{takes_part}
use types.Mut.{open_ref}
use denote.Builtin.{usize}
use denote.Exit.{yes, no}
use denote.Memory.{mem}
use denote.Array.{Array}
use denote.Param.{param, layout, bounded}
use denote.Plain.{uint_vals, uint_Tells}
use denote.RattleType.{RattleType, owns}
use denote.Ref.{MutBor, MutRef, mut_vals, mut_Tells}
use denote.Signature.{plain, mut_ref_to}
use denote.Slice.{MutSlice, Room, room, mut_slice_at, slice_val, mut_slice_vals}
use denote.Steps.{nothing, heard, only}
use denote.Shadow.{pure_l, pure_i}
use denote.Follow.{follows, follows_then}
use denote.FollowSlice.{heres_id, slice_of}
use denote.Triple.Spec.{triple_of}
use denote.Triple.Table.{framed}
use denote.Triple.Call.{calls_at}
use denote.Triple.Clauses.{Ended, Lasts, lasts}
use denote.Triple.Walked.{says, Stays, stay_dropped, walk_of, ends_at, Goes-dropped, Goes-spent_ref}
use borrow.Table.Elements.{at, at_mul, cut_app, join_app, length-take-le}
use Rattle.std.proofs.raw_atomic.Walks.{proved}
use Rattle.std.specs.Vec.{with_items}
use Rattle.std.specs.declared.alloc.Allocator.{Ghosts}
use Rattle.std.specs.contracts.vec.Vec as vec
use Rattle.std.specs.contracts.vec.Vec.as_mut_slice as callee
use Rattle.std.proofs.vec.Vec.as_mut_slice.Met.{met}
use Rattle.fd_tile.specs.Part.{part_left}
use Rattle.fd_tile.specs.contracts.part.part_mut as F
use Rattle.fd_tile.specs.contracts.part.part_mut.Key.{name as #self}
use Rattle.fd_tile.proofs.part.part_mut.Statement as stated
use Rattle.fd_tile.proofs.part.part_mut.Code as code

-- where the product fits a word, the count is zero or the size fits too
uncapped : (i k : ℕ) → i * k < 2 ^ 64 → i * capped k ≡ i * k
uncapped zero k h = zero-mul (capped k) ∙ sym (zero-mul k)
uncapped (suc i) k h = let step = suc-mul i k in ap (λ (j : ℕ). suc i * j) (capped_is k (omega arith))

-- ---- the loan: the elements from index m on, n of them
module _ {M : Type 1} {𝓤 : Ura M} (𝓛 : Logic 𝓤) (κ : Lft) (q : Share) (b o : ℕ) (γ : GName) (R : RattleType) (xs : List R.Denot) (m e : ℕ) (ordered : m ≤ e)
    (within : e ≤ length xs) (p : ℕ) (on : m * (mem R).size + o ≡ p) (rm : Room R (e - m)) where
  open 𝓛 use {H, A}

  abbrev front : List R.Denot
  front = take m xs

  abbrev mid : List R.Denot
  mid = take (e - m) (drop_list m xs)

  abbrev rest : List R.Denot
  rest = drop_list (e - m) (drop_list m xs)

  pub front_long : length front ≡ m
  front_long = length-take-le m xs (omega arith)

  pub mid_long : length mid ≡ e - m
  mid_long = let left = length-drop m xs in length-take-le (e - m) (drop_list m xs) (omega arith)

  begins : at o (mem R).size (length front) ≡ p
  begins = at_mul o (mem R).size (length front) ∙ ap (λ (k : ℕ). k * (mem R).size + o) front_long ∙ on

  cut : xs ≡ front ++ (mid ++ rest)
  cut = sym (take-append-drop m xs) ∙ ap (λ (l : List R.Denot). front ++ l) (sym (take-append-drop (e - m) (drop_list m xs)))

  abbrev Others : SProp 𝓤
  Others = sep 𝓤 (sem 𝓛 (cells (mem R) front b o)) (sem 𝓛 (cells (mem R) rest b (at p (mem R).size (length mid))))

  put : (ws : List R.Denot) → ent 𝓤 (sep 𝓤 (sem 𝓛 ((Arr (mem R) (length mid)).own_at ws b p)) Others)
      (sem 𝓛 ((Arr (mem R) (length xs)).own_at (part_left xs m e ws) b o))
  put ws = qed 𝓛 (‵ ((Arr (mem R) (length mid)).own_at ws b p) ∷ ‵ (cells (mem R) front b o) ∷ ‵ (cells (mem R) rest b (at p (mem R).size (length mid))) ∷ []) ∵
      fsplit ! $ feq_l ! (λ same.
      let full : part_left xs m e ws ≡ front ++ (ws ++ rest) = ap (λ (l : List R.Denot). front ++ (l ++ rest))
      (take_at ws (drop_list (length ws) mid) (e - m) (same ∙ mid_long)) in
      let whole : length xs ≡ length front + length (mid ++ rest) = ap length cut ∙ length-append front (mid ++ rest) in
      let inner : length (mid ++ rest) ≡ length mid + length rest = length-append mid rest in
      let now_whole : length (front ++ (ws ++ rest)) ≡ length front + length (ws ++ rest) = length-append front (ws ++ rest) in
      let now_inner : length (ws ++ rest) ≡ length ws + length rest = length-append ws rest in
      rewrite ! 2 (λ (k : ℕ). ‵ (cells (mem R) rest b (at p (mem R).size k))) (sym same) refl $ move ! (0 ∷ 2 ∷ []) $
      use2 𝓛 (‵ (cells (mem R) (ws ++ rest) b p)) (join_app 𝓛 (mem R) ws rest b p) $
      rewrite ! 0 (λ (k : ℕ). ‵ (cells (mem R) (ws ++ rest) b k)) (sym begins) refl $ move ! (1 ∷ 0 ∷ []) $
      use2 𝓛 (‵ (cells (mem R) (front ++ (ws ++ rest)) b o)) (join_app 𝓛 (mem R) front (ws ++ rest) b o) $
      rewrite ! 0 (λ (l : List R.Denot). ‵ (cells (mem R) l b o)) (sym full) refl $
      feq_i ! ℕ (length (part_left xs m e ws)) (length xs) (ap length full ∙ omega arith) $ fjoin ! $ done !)

  abbrev pub part_lent : GName → Item 𝓤
  part_lent δ = ‵ ((MutSlice (named 0) κ R).own_val (record { ref_ptr = (b, p); ghost_name = δ; now = mid }) (slice_val (b, p) (length mid) ∷ [])) ⊛ ‵
      (flft κ q) ⊛ ‵ (follows (Array R 0) (Array R 0) γ δ (part_left xs m e))

  pub lends_part : (vs : List Val)
      → ent 𝓤 (sep 𝓤 (sem 𝓛 ((MutSlice (named 0) κ R).own_val (record { ref_ptr = (b, o); ghost_name = γ; now = xs }) vs)) (A.lft κ q))
      (H.⇛ (ex 𝓤 (λ δ. mean 𝓛 (part_lent δ))))
  lends_part vs = qed 𝓛 (‵ ((MutSlice (named 0) κ R).own_val (record { ref_ptr = (b, o); ghost_name = γ; now = xs }) vs) ∷ ‵ (flft κ q) ∷ []) ∵ updating ! $
      fsplit3 ! $ drop ! $
      rewrite ! 0 (λ (l : List R.Denot). ‵ (fobs γ ((coded_list R.coded).code l))) (heres_id R xs) refl $ open_ref ! tt (Arr (mem R) (length xs)) {b = b}
      {o = o} $ fsplit ! $ drop ! $
      rewrite ! 0 (λ (l : List R.Denot). ‵ (cells (mem R) l b o)) cut refl $
      use1 𝓛 (‵ (cells (mem R) front b o) ⊛ ‵ (cells (mem R) (mid ++ rest) b (at o (mem R).size (length front)))) (cut_app 𝓛 (mem R) front (mid ++ rest) b o)
      $ split ! $ move ! (1 ∷ []) $
      rewrite ! 0 (λ (k : ℕ). ‵ (cells (mem R) (mid ++ rest) b k)) begins refl $
      use1 𝓛 (‵ (cells (mem R) mid b p) ⊛ ‵ (cells (mem R) rest b (at p (mem R).size (length mid)))) (cut_app 𝓛 (mem R) mid rest b p) $ split ! $
      feq_i ! ℕ (length mid) (length mid) refl $ fjoin ! $ move ! (2 ∷ 1 ∷ []) $ join ! $ move ! (2 ∷ 3 ∷ 4 ∷ 1 ∷ 0 ∷ []) $ group ! 5 $
      use1 𝓛 (later (some (λ (δ : GName). ‵ (fobs δ ((coded_list R.coded).code mid)) ⊛ ‵ (fbor κ (Body (Arr (mem R) (length mid)) b p δ)) ⊛ ‵ (flft κ q) ⊛ ‵
      (follows (Array R 0) (Array R 0) γ δ (part_left xs m e)))))
      (takes_part 𝓛 (Arr (mem R) (length xs)) (Arr (mem R) (length mid)) (part_left xs m e) κ q b o b p γ Others put ((coded_list R.coded).code xs)
      ((coded_list R.coded).code xs) mid) $ await ! tt $ pick ! (λ δ. split3 ! $
      use2 𝓛 (‵ ((MutSlice (named 0) κ R).own_val (record { ref_ptr = (b, p); ghost_name = δ; now = mid }) (slice_val (b, p) (length mid) ∷ [])))
      (slice_of 𝓛 R (named 0) κ b p δ mid (subst (Room R) (sym mid_long) rm)) $ now ! $ show ! (λ δ. mean 𝓛 (part_lent δ)) δ $ done !)

-- ---- the code
module _ (X Z : RattleType) (g : Ghosts Z.Denot) (d dd : Dict) where
  abbrev args : Args
  args = bounded (a_type ∷ a_type ∷ []) (X, (Z, tt)) (dcons d (dcons dd dnil))

  abbrev R : RattleType
  R = param 0 X

  abbrev V : RattleType
  V = vec.the_row (param 0 X) (param 1 Z) g

  abbrev ended : Ended
  ended = F.ended X Z g d dd

  abbrev stayed : Stays ended.signature.params ended.kept
  stayed = (stay_dropped (mut_ref_to (0 ∷ []) tt (plain (λ _. V))) no, (stay_dropped (plain (λ _. usize)) yes, (stay_dropped (plain (λ _. usize)) yes, tt)))

pub part_mut_spec : {M : Type 1} → stated.statement M
part_mut_spec 𝓤 𝓛 𝓜 𝓡 wired X Z L LZ g d dd allocator glued =
    let T = ended X Z g d dd in let hs = stayed X Z g d dd in
    let c = F.clauses X Z g d dd 𝓛 𝓜.mem 𝓡.returns in
    let k = triple_of 𝓛 (callee.signature X Z g d dd) (callee.spec X Z g d dd 𝓛 𝓜.mem 𝓡.returns) in
    let dropped = Goes-dropped 𝓛 3 (plain (λ _. usize)) yes (λ κs x f. refl) in
    proved 𝓛 T hs c 𝓜 𝓡 (Goes-spent_ref 𝓛 3 (0 ∷ []) tt (plain (λ _. V X Z g d dd)), (dropped, (dropped, tt)))
    (#self (args X Z g d dd)) (inst_fn (args X Z g d dd) code.function) (code.unfolded 𝓤 𝓛.H 𝓜 𝓡 wired (X, (Z, tt)) d dd)
    (λ κs. (mut_vals, (uint_vals w64, (uint_vals w64, tt)))) (λ κs. (mut_Tells (named 0) κs.0 (V X Z g d dd), (uint_Tells w64, (uint_Tells w64, tt))))
    (λ κs qs bounds a gh are.
    let κ = κs.0 in let κT = κs.1.0 in let κZ = κs.1.1.0 in
    let q = qs.0 in let qT = qs.1.0 in let qZ = qs.1.1.0 in
    let γ = a.0.ghost_name in let v = a.0.now in
    let m = a.1.0 in let e = a.1.1.0 in
    let bound : (walk_of 𝓛 T hs c).Ghost = ((κs, qs, bounds, a, (mut_vals a.0, (vint w64 m ∷ [], (vint w64 e ∷ [], tt)))), tt) in
    let y : k.Ghost = ((κs, qs, bounds, (a.0, tt), (mut_vals a.0, tt)), tt) in
    let s : ℕ = size (layout X) in
    qed 𝓛 (((‵ (flft κ q) ⊛ ‵ (flft κT qT) ⊛ ‵ (flft κZ qZ) ⊛ ‵ ftrue) ⊛ ‵ (owns (MutRef (named 0) κ (V X Z g d dd) ∷ usize ∷ usize ∷ []) a bound.0.4)) ∷
    (given (κT ⊑ X.lives) (‵ ftrue) ⊛ given (κZ ⊑ Z.lives) (‵ ftrue) ⊛ given (m ≤ e) (‵ ftrue) ⊛ given (e ≤ length v.items) (‵ ftrue)) ∷ []) ∵
    move ! (1 ∷ []) $ split3 ! $ learn ! (λ aT. drop ! $ learn ! (λ aZ. drop ! $ split ! $ learn ! (λ ordered. drop ! $ learn ! (λ within. drop ! $ split ! $
    enter ! _ _ _ _ _ $
    alloc_all ! (λ l. pass_all ! refl ((tt, tt), ((tt, record { fits = are.1.0.1 }), ((tt, record { fits = are.1.1.0.1 }), tt))) $
    sets ! (addr ! (through ! refl (stop !))) refl (tt, tt) $
    move ! (1 ∷ []) $ fsplit ! $ move ! (1 ∷ []) $ drop ! $ nothing ! $ move ! (1 ∷ 0 ∷ []) $ fjoin ! $ move ! (1 ∷ 0 ∷ []) $ join ! $
    use0 𝓛 (raw (fact 𝓤 (κT ⊑ X.lives))) (fact_i 𝓤 _ (emp 𝓤) aT) $
    use0 𝓛 (raw (fact 𝓤 (κZ ⊑ Z.lives))) (fact_i 𝓤 _ (emp 𝓤) aZ) $ move ! (1 ∷ 0 ∷ []) $ nothing ! $ move ! (2 ∷ 0 ∷ []) $ join ! $ move !
    (1 ∷ 0 ∷ []) $ join ! $ move ! (1 ∷ 0 ∷ []) $ join ! $ use1 𝓛 (raw (k.pre y)) (id⊢ 𝓤 _) $
    calls_at ! (framed 𝓤 𝓛.H 𝓜 (tables 𝓤 𝓛.H 𝓜 𝓡 𝓡.env)) k
    (met 𝓤 𝓛 𝓜 𝓡 (code.calls-std_alloc::vec::Vec::as_mut_slice 𝓡.env wired) X Z L LZ g d dd allocator glued) y (and_then ! (get ! refl) (no_more !)) (λ u.
    use1 𝓛 (later (some (λ (r : MutBor (List X.Denot)).
    ((‵ (flft κ q) ⊛ ‵ (flft κT qT) ⊛ ‵ (flft κZ qZ) ⊛ ‵ ftrue) ⊛ ‵ ((MutSlice (named 0) κ (R X Z g d dd)).own_val r (u ∷ []))) ⊛
    some (λ (ws : Lasts (callee.ended X Z g d dd) κs y.0.3). ‵ (lasts (callee.ended X Z g d dd) κs y.0.3 ws) ⊛
    (‵ (follows (V X Z g d dd) (Array (R X Z g d dd) 0) γ r.ghost_name (with_items v)) ⊛
    (raw (fact 𝓤 (r.now ≡ v.items)) ⊛ raw (fact 𝓤 (length r.now ≡ v.len)))))))) (id⊢ 𝓤 (k.post y u)) $
    await ! tt $ pick ! (λ r. split ! $ split ! $ move ! (2 ∷ []) $ pick ! (λ ws. split ! $ drop ! $ split ! $ move ! (1 ∷ []) $ split ! $ heard ! _
    (λ value. drop ! $
    -- [what the Vec follows; the tokens; the slice]
    move ! (2 ∷ []) $ rewrite ! 0
    (λ (l : List X.Denot). ‵ ((MutSlice (named 0) κ (R X Z g d dd)).own_val (record { ref_ptr = r.ref_ptr; ghost_name = r.ghost_name; now = l })
    (u ∷ []))) value refl $
    fsplit ! $ fsplit ! $ feq_l ! (λ is. pure_l ! (room (R X Z g d dd) (length v.items)) (λ rm.
    let b' : ℕ = r.ref_ptr.0 in
    let o' : ℕ = r.ref_ptr.1 in
    let all : MutBor (List X.Denot) = record { ref_ptr = (r.ref_ptr.0, r.ref_ptr.1); ghost_name = r.ghost_name; now = v.items } in
    let p : ℕ = m * s + o' in
    let fits : length v.items * s < 2 ^ 63 = rm.1 in
    let before : m * s ≤ length v.items * s = mul-le-mul_right s (omega arith) in
    let fs : m * s < 2 ^ 64 = omega arith in
    let part : (e - m) * s ≤ length v.items * s = mul-le-mul_right s (omega arith) in
    let fr : e - m < 2 ^ 64 = omega arith in
    let fits_part : Room (R X Z g d dd) (e - m) = (fr, omega arith) in
    let lent : List X.Denot = take (e - m) (drop_list m v.items) in
    let long : length lent ≡ e - m = mid_long 𝓛 κ q b' o' r.ghost_name (R X Z g d dd) v.items m e ordered within p refl fits_part in
    pure_i ! (mut_slice_at (R X Z g d dd) all (slice_val (b', o') (length v.items) ∷ [])) (tt, (tt, tt)) (refl, rm) $ fjoin ! $
    -- [the slice; what the Vec follows; the tokens]
    lands_as ! (ap only is) refl (tt, (tt, (record { fits = rm.0 }, tt))) $
    sets ! (is_now ! (bin ! (get ! refl) (size_word !) (record { fits = subst (λ (k : ℕ). k < 2 ^ 64) (sym (uncapped m s fs)) fs }))
    (ap (vint w64) (uncapped m s fs))) refl (tt, record { fits = fs }) $
    sets ! (bin ! (get_in ! (fld ! refl (stop !)) (sub ! 0 refl (whole !))) (get ! refl) tt) refl (tt, tt) $
    sets ! (bin ! (get ! refl) (get ! refl) ordered) refl (tt, record { fits = fr }) $
    sets ! (addr ! (through ! refl (stop !))) refl (tt, tt) $
    sets ! (agg ! (and_then ! (get ! refl) (and_then ! (get ! refl) (no_more !)))) refl (tt, (tt, (record { fits = fr }, tt))) $
    move ! (2 ∷ []) $ split ! $ move ! (2 ∷ 0 ∷ []) $
    use2 𝓛 (later (some (part_lent 𝓛 κ q b' o' r.ghost_name (R X Z g d dd) v.items m e ordered within p refl fits_part)))
    (lends_part 𝓛 κ q b' o' r.ghost_name (R X Z g d dd) v.items m e ordered within p refl fits_part (mut_slice_vals all)) $ await ! tt $ pick !
    (λ δ. split3 ! $
    move ! (4 ∷ 2 ∷ []) $
    use2 𝓛 (‵ (follows (V X Z g d dd) (Array (R X Z g d dd) 0) γ δ (λ left. with_items v (part_left v.items m e left))))
    (follows_then 𝓛 (V X Z g d dd) (Array (R X Z g d dd) 0) (Array (R X Z g d dd) 0) (with_items v) (part_left v.items m e) γ r.ghost_name δ) $
    returns ! (look_at ! 0 refl) $ free_all ! refl $ keep ! (1 ∷ 2 ∷ 0 ∷ 3 ∷ []) $
    rewrite ! 0 (λ (j : ℕ). ‵ ((MutSlice (named 0) κ (R X Z g d dd)).own_val (record { ref_ptr = (b', p); ghost_name = δ; now = lent })
    (slice_val (b', p) j ∷ []))) long refl $
    suffices ! _ (ends_at 𝓛 T hs c bound (slice_val (b', p) (e - m))
    (record { ref_ptr = (b', p); ghost_name = δ; now = lent }) (tt, (tt, (tt, tt))) (tt, (tt, (tt, tt)))) $
    nothing ! $ nothing ! $ fjoin ! $ nothing ! $ fjoin ! $ nothing ! $ fjoin ! $ join ! $ move ! (1 ∷ 3 ∷ []) $ join ! $ join ! $ frame ! $ says ! refl $
    done !)))))))))))))
