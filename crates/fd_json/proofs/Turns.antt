-- The grammar of JSON and the reading of its data, one turn of a loop at a time.
use Rattle.std.proofs.Common.{◌≡◌, ℕ, zero, suc, ◌-◌, ◌<◌, ◌≤◌, List, length, Option, Some, None, option_map, option_and_then, refl, ap, ◌∙◌, arith}
use Rattle.json.specs.Token.{Token}
use Rattle.json.specs.Json as json
use Rattle.json.specs.Json.{Json, Parse, parse_map, after_end_array, read_key, items_step, members_step, items, members}
use Rattle.json.proofs.Grammar.{items_end, members_end, members_no_key}
use Rattle.serde_json.specs.Data.{Data, array, object, no_items, item, Members, no_members, put}
use Rattle.serde_json.specs.Read.{of_json, of_items, of_members, converted}

-- ---- what was converted

-- with the tokens that are left, under f or before it
pub paired : {A B : Type 0} (f : A → B) (rest : List Token) (o : Option A) → option_map (λ b. (b, rest)) (option_map f o)
    ≡ parse_map f (option_map (λ a. (a, rest)) o)
paired f rest None = refl
paired f rest (Some a) = refl

-- what is made of a thing before it is converted, and after
module _ {A B : Type 0} (f : A → Option B) where
  converted-before : {C : Type 0} (g : C → A) (o : Option (C × List Token)) → converted f (parse_map g o) ≡ converted (λ c. f (g c)) o
  converted-before g None = refl
  converted-before g (Some p) = refl

  converted-after : {C : Type 0} (g : B → C) (o : Option (A × List Token)) → converted (λ a. option_map g (f a)) o ≡ parse_map g (converted f o)
  converted-after g None = refl
  converted-after g (Some p) = paired g p.1 (f p.0)

pub converted-array : (o : Option (json.Items × List Token)) → converted of_json (parse_map json.array o) ≡ parse_map array (converted of_items o)
converted-array o = converted-before of_json json.array o ∙ converted-after of_items array o

pub converted-object : (o : Option (json.Members × List Token)) → converted of_json (parse_map json.object o)
    ≡ parse_map object (converted (λ ms. of_members ms no_members) o)
converted-object o = converted-before of_json json.object o ∙ converted-after (λ ms. of_members ms no_members) object o

-- a value and then more: g has both, and is data as h says, where the value is data
module _ {A B C : Type 0} (f : B → Option C) (g : Json → A → B) (h : Data → A → Option C) (more : Parse A)
    (same : (j : Json) (a : A) → f (g j a) ≡ option_and_then (λ d. h d a) (of_json j)) where
  no_data : (o : Option (A × List Token)) → converted {B = C} (λ a. None) o ≡ None
  no_data None = refl
  no_data (Some p) = refl

  value_or_none : (r : List Token) (x : Option Data) → converted (λ a. option_and_then (λ d. h d a) x) (more r)
      ≡ option_and_then (λ (q : Data × List Token). converted (h q.0) (more q.1)) (option_map (λ d. (d, r)) x)
  value_or_none r None = no_data (more r)
  value_or_none r (Some d) = refl

  value_first : (o : Option (Json × List Token)) → converted f (option_and_then (λ q. parse_map (g q.0) (more q.1)) o)
      ≡ option_and_then (λ (q : Data × List Token). converted (h q.0) (more q.1)) (converted of_json o)
  value_first None = refl
  value_first (Some q) = converted-before f (g q.0) (more q.1) ∙ simp same (value_or_none q.1 (of_json q.0))

module _ (p : Parse Json) where
  -- ---- items

  item_next : (n : ℕ) (ts : List Token) → after_end_array ts ≡ None → converted of_items (items p (suc n) ts)
      ≡ option_and_then (λ (q : Data × List Token). converted (λ js. option_map (item q.0) (of_items js)) (items p n q.1)) (converted of_json (p ts))
  unfolding items
  item_next n ts going = ap (λ o. converted of_items (items_step p (items p n) ts o)) going
      ∙ value_first of_items json.item (λ d js. option_map (item d) (of_items js)) (items p n) (λ j js. refl) (p ts)

  -- one item more
  pub item_read : (n : ℕ) (ts r : List Token) (d : Data) → 0 < n → after_end_array ts ≡ None → converted of_json (p ts) ≡ Some (d, r)
      → converted of_items (items p n ts) ≡ parse_map (item d) (converted of_items (items p (n - 1) r))
  item_read zero ts r d turns going is = absurd (omega arith)
  item_read (suc n) ts r d turns going is =
      let less : n ≡ suc n - 1 = omega arith in
      rw (item_next n ts going, is, ← less) (converted-after of_items (item d) (items p n r))

  -- one that is refused
  pub item_refused : (n : ℕ) (ts : List Token) → after_end_array ts ≡ None → converted of_json (p ts) ≡ None → converted of_items (items p n ts) ≡ None
  unfolding items
  item_refused zero ts going is = refl
  item_refused (suc n) ts going is = rw (item_next n ts going, is)

  -- the end of an array
  pub items_over : (n : ℕ) (ts r : List Token) → length ts ≤ n → after_end_array ts ≡ Some r → converted of_items (items p n ts) ≡ Some (no_items, r)
  items_over n ts r enough closed = ap (converted of_items) (items_end p n ts r enough closed)

  -- ---- members, after those that were found
  module _ (found : Members) where
    member_next : (n : ℕ) (k : List ℕ) (ts s : List Token) → read_key ts ≡ Some (Some k, s) → converted (λ ms. of_members ms found) (members p (suc n) ts)
        ≡ option_and_then (λ (q : Data × List Token). converted (λ ms. of_members ms (put k q.0 found)) (members p n q.1)) (converted of_json (p s))
    unfolding members
    member_next n k ts s key = ap (λ o. converted (λ ms. of_members ms found) (option_and_then (λ q. members_step p (members p n) q.0 q.1) o)) key
        ∙ value_first (λ ms. of_members ms found) (json.member k) (λ d ms. of_members ms (put k d found)) (members p n) (λ j ms. refl) (p s)

    -- one member more
    pub member_read : (n : ℕ) (k : List ℕ) (ts s r : List Token) (d : Data) → 0 < n → read_key ts ≡ Some (Some k, s) → converted of_json (p s) ≡ Some (d, r)
        → converted (λ ms. of_members ms found) (members p n ts) ≡ converted (λ ms. of_members ms (put k d found)) (members p (n - 1) r)
    member_read zero k ts s r d turns key is = absurd (omega arith)
    member_read (suc n) k ts s r d turns key is = let less : n ≡ suc n - 1 = omega arith in rw (member_next n k ts s key, is, ← less)

    -- one whose value is refused
    pub member_refused : (n : ℕ) (k : List ℕ) (ts s : List Token) → read_key ts ≡ Some (Some k, s) → converted of_json (p s) ≡ None
        → converted (λ ms. of_members ms found) (members p n ts) ≡ None
    unfolding members
    member_refused zero k ts s key is = refl
    member_refused (suc n) k ts s key is = rw (member_next n k ts s key, is)

    -- no key, and no end
    pub key_refused : (n : ℕ) (ts : List Token) → read_key ts ≡ None → converted (λ ms. of_members ms found) (members p n ts) ≡ None
    key_refused n ts none = ap (converted (λ ms. of_members ms found)) (members_no_key p n ts none)

    -- the end of an object
    pub members_over : (n : ℕ) (ts r : List Token) → length ts ≤ n → read_key ts ≡ Some (None, r) → converted (λ ms. of_members ms found) (members p n ts)
        ≡ Some (found, r)
    members_over n ts r enough closed = ap (converted (λ ms. of_members ms found)) (members_end p n ts r enough closed)
