-- The code table of an accepted sheet holds the instructions of each function's body: one turn of the loop, and the law. Assumes nothing.
use mathlib.Core.Path.{◌≡◌, refl, sym, ap, ◌∙◌, subst}
use Prim.Native.Nat.{ℕ, zero, suc, ◌+◌, ◌-◌, ◌*◌, ◌≤◌, ◌<◌, min}
use native.Mathlib.Omega.{arith}
use mathlib.Core.Bool.{Bool, true, false}
use mathlib.Core.List.{List, [], ◌∷◌, ◌++◌, append-nil, append_assoc}
use lib.Dec.{ltb, leb, eqb}
use lib.ListN.{length, get_or, set, take, replicate, length-set, length-append, get_or-append, get_or-eq_default}
use lib.Seq.{length-take-le, sets-eq, get_or-set_same, get_or-set_other, get_or_at, take_at, take-suc, take_all, sets}
use borrow.Author.Tests.{lt-ltb, le-ltb, ltb-true, ltb-false, leb-true}
use Rattle.values.specs.Values.{pick}
use Rattle.sheet.specs.Reading.{ok, within}
use Rattle.sheet.specs.Expression.{Function, no_function, Scope}
use Rattle.sheet.specs.Functions.{read_widths, read_body, body_scope, function_of, Made, read_function, Defined, read_functions}
use Rattle.sheet.specs.Module.{read_head, with_functions, read_wires, read_threads, whole_sheet}
use Rattle.sheet.specs.Answers.{definitions_of}
use Rattle.sheet.proofs.Reading.{ok-injective, bind_ok, check-ok, within-ok}
use Rattle.sheet.proofs.Sections.{headed}
use Rattle.pseudocode.specs.Filling.{Filling, filling}
use Rattle.pseudocode.proofs.Skipping.{Counted, counted_none, functions-counted}
use Rattle.pseudocode.proofs.Filling.{Frame}
use Rattle.bodies.specs.Steps.{size_of, lay_out}
use Rattle.bodies.specs.Filling.{fill_at}
use Rattle.bodies.specs.Laying.{Laid, laid, body_at, lay_one, lay_from, function_count, lay_at}
use Rattle.bodies.specs.Claims.{own_scope, Holds, BodiesLaid}
use Rattle.bodies.proofs.Steps.{lay_out-size}
use Rattle.bodies.proofs.Reading.{derive-body, body_bytes}
use Rattle.bodies.proofs.Holding.{Held, held-before, held_at, fills}

-- ---- one turn of the loop

pub function_count-min : (n : ℕ) → min n 8 ≡ function_count n
unfolding function_count
function_count-min n = by (ltb n 8) refl
  where
    by : (t : Bool) → ltb n 8 ≡ t → min n 8 ≡ pick t n 8
    by true e = let l = ltb-true n 8 e in omega arith
    by false e = let l = ltb-false n 8 e in omega arith

pub body_at-in : (s : List ℕ) (d : ℕ) → d < 8192 → body_at s d ≡ d + 2 + get_or s d 0
unfolding body_at
body_at-in s d l = simp (lt-ltb d 8192 l)

pub body_at-out : (s : List ℕ) (d : ℕ) → 8192 ≤ d → body_at s d ≡ d
unfolding body_at
body_at-out s d l = simp (le-ltb d 8192 l)

pub function_count-most : (n : ℕ) → function_count n ≤ 8
unfolding function_count
function_count-most n = by (ltb n 8) refl
  where
    by : (t : Bool) → ltb n 8 ≡ t → pick t n 8 ≤ 8
    by true e = let l = ltb-true n 8 e in omega arith
    by false e = omega arith

pub lay-turn : (s ds : List ℕ) (n k : ℕ) (c : Laid) → k < n → lay_from s ds (n - k) k c ≡ lay_from s ds (n - (k + 1)) (k + 1) (lay_one s ds k c)
unfolding lay_from
lay-turn s ds n k c l =
    let e : n - k ≡ suc (n - (k + 1)) = omega arith in
    ap (λ (m : ℕ). lay_from s ds m k c) e

pub lay-end : (s ds : List ℕ) (n k : ℕ) (c : Laid) → n ≤ k → lay_from s ds (n - k) k c ≡ c
unfolding lay_from
lay-end s ds n k c l = let e : n - k ≡ 0 = omega arith in ap (λ (m : ℕ). lay_from s ds m k c) e

-- What the code's calls give for function k.
pub one-path : (s ds : List ℕ) (k place : ℕ) (starts ends code : List ℕ) {at : ℕ} {g : Filling} → at ≡ body_at s (get_or ds k 0)
    → g ≡ fill_at s ds 64 (filling at place code)
    → laid g.place (set starts k place) (set ends k g.place) g.code ≡ lay_one s ds k (laid place starts ends code)
unfolding lay_one
one-path s ds k place starts ends code e h =
    let z = h ∙ ap (λ (p : ℕ). fill_at s ds 64 (filling p place code)) e in
    λ i. laid (z i).place (set starts k place) (set ends k (z i).place) (z i).code

-- ---- a function that was read

widths-long : (n : ℕ) (s : List ℕ) (at : ℕ) {ws : List ℕ} → read_widths n s at ≡ ok ws → length ws ≡ n
unfolding read_widths
widths-long zero s at h = ap length (sym (ok-injective h))
widths-long (suc n) s at h =
    let w = bind_ok (within 1 32 4 s at) _ h in
    let ws = bind_ok (read_widths n s (at + 1)) _ w.2 in
    ap length (sym (ok-injective ws.2)) ∙ ap suc (widths-long n s (at + 1) ws.1)

-- Its body was read behind its count and widths, in its own scope.
record Read (declared : ℕ) (earlier : List Function) (s : List ℕ) (p : ℕ) (f : Made) : Type 0 where
  pub inside : p < length s
  pub body : read_body 64 (body_scope declared earlier (length f.function.parameters) (f.function.parameters ++ (f.function.result ∷ []))) s
      (p + 2 + get_or s p 0) ≡ ok (record { body = f.function.body; next = f.next })

function-read : (declared : ℕ) (earlier : List Function) (s : List ℕ) (p : ℕ) {f : Made} → read_function declared earlier s p ≡ ok f
    → Read declared earlier s p f
unfolding read_function function_of
function-read declared earlier s p {f} h =
    let k = bind_ok (within 1 4 3 s p) _ h in
    let ws = bind_ok (read_widths (k.0 + 1) s (p + 1)) _ k.2 in
    let b = bind_ok (read_body 64 (body_scope declared earlier k.0 ws.0) s (p + 2 + k.0)) _ ws.2 in
    let x = within-ok 1 4 3 s p k.1 in
    let long = widths-long (k.0 + 1) s (p + 1) ws.1 in
    let size = length-take-le k.0 ws.0 (omega arith) in
    let whole = sym (take-suc ws.0 k.0 0 (omega arith)) ∙ take_all (suc k.0) ws.0 (omega arith) in
    rw (← ok-injective b.2) (record { inside = x.below; body = rw (size, whole, x.same) b.1 })

-- ---- functions that were read, one after the other

-- What stands in the table below a place, and in the lists below a number, is left as it was.
record Keeps (k : ℕ) (c c' : Laid) : Type 0 where
  pub code-long : length c'.code ≡ length c.code
  pub code_below : (i : ℕ) → i < 2 * c.place → get_or c'.code i 0 ≡ get_or c.code i 0
  pub starts-below : (j : ℕ) → j < k → get_or c'.starts j 0 ≡ get_or c.starts j 0
  pub ends-below : (j : ℕ) → j < k → get_or c'.ends j 0 ≡ get_or c.ends j 0

-- The table holds a function's body from one place to another.
record Stands (c : Scope) (s : List ℕ) (l : Laid) (k : ℕ) (f : Function) : Type 0 where
  pub size : get_or l.ends k 0 ≡ get_or l.starts k 0 + size_of f.body
  pub held : Held c s l.code (get_or l.starts k 0) (lay_out f.body (get_or l.starts k 0))

stands-kept : {c : Scope} {s : List ℕ} {l l' : Laid} {k n : ℕ} {f : Function} → k < n → get_or l.starts k 0 + size_of f.body ≤ l.place
    → Keeps n l l' → Stands c s l k f → Stands c s l' k f
stands-kept {c} {s} {l} {l'} {k} {n} {f} below most x y =
    let start = x.starts-below k below in
    let b = lay_out-size f.body (get_or l.starts k 0) in
    let frame : Frame (2 * l.place) (length l.code + 2 * l.place) l.code l'.code =
    record { long = x.code-long; below = x.code_below; above = λ i h. past l.code l'.code i x.code-long (omega arith) } in
    record {
      size = rw (x.ends-below k below, start) y.size;
      held = rw start (held-before frame (omega arith) y.held);
    }
  where
    past : (a b : List ℕ) (i : ℕ) → length b ≡ length a → length a ≤ i → get_or b i 0 ≡ get_or a i 0
    past a b i e h = get_or-eq_default b 0 (omega arith) ∙ sym (get_or-eq_default a 0 h)

-- One function: it stands in the table, and nothing before it is changed.
record One (declared : ℕ) (earlier : List Function) (s : List ℕ) (k p : ℕ) (f : Made) (c c' : Laid) : Type 0 where
  pub keeps : Keeps k c c'
  pub start : get_or c'.starts k 0 ≡ c.place
  pub grown : c'.place ≡ c.place + size_of f.function.body
  pub bytes : 2 * c'.place ≤ f.next
  pub starts-long : length c'.starts ≡ 8
  pub ends-long : length c'.ends ≡ 8
  pub stands : Stands (body_scope declared earlier (length f.function.parameters) (f.function.parameters ++ (f.function.result ∷ []))) s c' k f.function

module _ (s ds : List ℕ) (short : length s ≤ 8192) where
  one-stands : (declared : ℕ) (earlier : List Function) (k p : ℕ) {f : Made} (c : Laid) → read_function declared earlier s p ≡ ok f
      → Counted s ds earlier → get_or ds k 0 ≡ p → k < 8 → 2 * c.place ≤ p → length c.code ≡ 8192 → length c.starts ≡ 8 → length c.ends ≡ 8
      → One declared earlier s k p f c (lay_one s ds k c)
  unfolding lay_one body_scope
  one-stands declared earlier k p {f} c h counted at few room long starts ends =
      let r = function-read declared earlier s p h in
      let inside = r.inside in
      let own = body_scope declared earlier (length f.function.parameters) (f.function.parameters ++ (f.function.result ∷ [])) in
      let b = derive-body own s 64 (p + 2 + get_or s p 0) r.body in
      let bytes = body_bytes own s b in
      let here : body_at s (get_or ds k 0) ≡ p + 2 + get_or s p 0 = ap (body_at s) at ∙ body_at-in s p (omega arith) in
      let x = fills own s ds short counted b c.place (filling (body_at s (get_or ds k 0)) c.place c.code) here refl (omega arith) long in
      let z = x.place in
      let first : get_or (set c.starts k c.place) k 0 ≡ c.place = get_or-set_same c.starts k c.place 0 (omega arith) in
      record {
        keeps =
            record {
              code-long = x.part.frame.long;
              code_below = x.part.frame.below;
              starts-below = λ j l. get_or-set_other c.starts k j _ 0 (λ e. omega arith);
              ends-below = λ j l. get_or-set_other c.ends k j _ 0 (λ e. omega arith);
            };
        start = first;
        grown = z;
        bytes = omega arith;
        starts-long = length-set c.starts k _ ∙ starts;
        ends-long = length-set c.ends k _ ∙ ends;
        stands =
            record {
              size = rw (get_or-set_same c.ends k (fill_at s ds 64 (filling (body_at s (get_or ds k 0)) c.place c.code)).place 0 (omega arith), first) z;
              held = rw first x.part.held;
            };
      }

-- Those read last stand behind the earlier ones, each with its place.
record Behind (n : ℕ) (earlier : List Function) (d : Defined) : Type 0 where
  pub rest : List Function
  pub split : d.functions ≡ earlier ++ rest
  pub many : length rest ≡ n
  pub places : length d.places ≡ n

behind : (declared n : ℕ) (earlier : List Function) (s : List ℕ) (p : ℕ) {d : Defined} → read_functions declared n earlier s p ≡ ok d → Behind n earlier d
unfolding read_functions
behind declared zero earlier s p h = rw (← ok-injective h) (record { rest = []; split = sym (append-nil earlier); many = refl; places = refl })
behind declared (suc n) earlier s p h =
    let f = bind_ok (read_function declared earlier s p) _ h in
    let fs = bind_ok (read_functions declared n (earlier ++ (f.0.function ∷ [])) s f.0.next) _ f.2 in
    let x = behind declared n (earlier ++ (f.0.function ∷ [])) s f.0.next fs.1 in
    rw (← ok-injective fs.2)
    (record {
      rest = f.0.function ∷ x.rest;
      split = x.split ∙ append_assoc earlier (f.0.function ∷ []) x.rest;
      many = ap suc x.many;
      places = ap suc x.places;
    })

-- All of them: each stands in the table.
record All (declared : ℕ) (s : List ℕ) (k n : ℕ) (fs : List Function) (c c' : Laid) : Type 0 where
  pub keeps : Keeps k c c'
  pub stands : (j : ℕ) → k ≤ j → j < k + n → Stands (own_scope declared fs j) s c' j (get_or fs j no_function)

module _ (s ds : List ℕ) (short : length s ≤ 8192) (declared : ℕ) where
  -- The function behind the earlier ones, and its scope.
  own_is : (earlier rest fs : List Function) (f : Function) (k : ℕ) → length earlier ≡ k → fs ≡ earlier ++ (f ∷ rest)
      → (get_or fs k no_function ≡ f) × (own_scope declared fs k ≡ body_scope declared earlier (length f.parameters) (f.parameters ++ (f.result ∷ [])))
  own_is earlier rest fs f k e h =
      let g : get_or fs k no_function ≡ f = ap (λ (l : List Function). get_or l k no_function) h ∙ get_or_at earlier f rest no_function k e in
      let t : take k fs ≡ earlier = ap (take k) h ∙ take_at earlier (f ∷ rest) k e in
      (g, λ i. body_scope declared (t i) (length (g i).parameters) ((g i).parameters ++ ((g i).result ∷ [])))

  all-stand : (n : ℕ) (earlier : List Function) (p k : ℕ) {d : Defined} (c : Laid) → read_functions declared n earlier s p ≡ ok d
      → length earlier ≡ k → k + n ≤ 8 → Counted s ds d.functions → ((i : ℕ) → i < n → get_or ds (k + i) 0 ≡ get_or d.places i 0)
      → 2 * c.place ≤ p → length c.code ≡ 8192 → length c.starts ≡ 8 → length c.ends ≡ 8
      → All declared s k n d.functions c (lay_from s ds n k c)
  unfolding read_functions lay_from
  all-stand zero earlier p k c h e few counted at room long starts ends =
      record {
        keeps = record { code-long = refl; code_below = λ i l. refl; starts-below = λ j l. refl; ends-below = λ j l. refl };
        stands = λ j l m. absurd (omega arith);
      }
  all-stand (suc n) earlier p k {d} c h e few counted at room long starts ends =
      let f = bind_ok (read_function declared earlier s p) _ h in
      let more = earlier ++ (f.0.function ∷ []) in
      let fs = bind_ok (read_functions declared n more s f.0.next) _ f.2 in
      let same = ok-injective fs.2 in
      let functions : fs.0.functions ≡ d.functions = ap (λ (x : Defined). x.functions) same in
      let places : p ∷ fs.0.places ≡ d.places = ap (λ (x : Defined). x.places) same in
      let b = behind declared n more s f.0.next fs.1 in
      let split : d.functions ≡ earlier ++ (f.0.function ∷ b.rest) = sym functions ∙ b.split ∙ append_assoc earlier (f.0.function ∷ []) b.rest in
      let size = length-append earlier (f.0.function ∷ []) in
      let z : k + 0 ≡ k = omega arith in
      let first : get_or ds k 0 ≡ p = ap (λ (i : ℕ). get_or ds i 0) (sym z) ∙ at 0 (omega arith) ∙ ap (λ (l : List ℕ). get_or l 0 0) (sym places) in
      let x = one-stands s ds short declared earlier k p c f.1 (counted-first earlier (f.0.function ∷ b.rest) split) first (omega arith) room long starts ends in
      let c' = lay_one s ds k c in
      let y =
      all-stand n more f.0.next (k + 1) c' fs.1 (omega arith) (omega arith) (rw functions counted)
      (λ i l. let q : k + 1 + i ≡ k + suc i = omega arith in
      ap (λ (j : ℕ). get_or ds j 0) q ∙ at (suc i) (omega arith) ∙ ap (λ (l : List ℕ). get_or l (suc i) 0) (sym places))
      x.bytes (x.keeps.code-long ∙ long) x.starts-long x.ends-long
      in
      record {
        keeps = kept x y.keeps;
        stands = λ j l m. each x (rw functions at y.stands) (own_is earlier b.rest d.functions f.0.function k e split) y.keeps j l m;
      }
    where
      counted-first : (xs ys : List Function) → d.functions ≡ xs ++ ys → Counted s ds xs
      counted-first xs ys q i l =
          let w = ap length q ∙ length-append xs ys in
          counted i (omega arith)
          ∙ ap (λ (g : Function). length g.parameters) (ap (λ (l : List Function). get_or l i no_function) q ∙ get_or-append xs ys no_function i l)

      kept : {f : Made} {c' c'' : Laid} → One declared earlier s k p f c c' → Keeps (k + 1) c' c'' → Keeps k c c''
      kept x y =
          let g = x.grown in
          record {
            code-long = y.code-long ∙ x.keeps.code-long;
            code_below = λ i l. y.code_below i (omega arith) ∙ x.keeps.code_below i l;
            starts-below = λ j l. y.starts-below j (omega arith) ∙ x.keeps.starts-below j l;
            ends-below = λ j l. y.ends-below j (omega arith) ∙ x.keeps.ends-below j l;
          }

      each : {f : Made} {c' c'' : Laid} → One declared earlier s k p f c c'
          → ((j : ℕ) → k + 1 ≤ j → j < k + 1 + n → Stands (own_scope declared d.functions j) s c'' j (get_or d.functions j no_function))
          → (get_or d.functions k no_function ≡ f.function)
          × (own_scope declared d.functions k ≡ body_scope declared earlier (length f.function.parameters) (f.function.parameters ++ (f.function.result ∷ [])))
          → Keeps (k + 1) c' c'' → (j : ℕ) → k ≤ j → j < k + suc n → Stands (own_scope declared d.functions j) s c'' j (get_or d.functions j no_function)
      each {f} {c'} {c''} x y own w j l m = by (ltb k j) refl
        where
          by : (t : Bool) → ltb k j ≡ t → Stands (own_scope declared d.functions j) s c'' j (get_or d.functions j no_function)
          by true q = y j (omega (arith, ltb-true k j q)) (omega arith)
          by false q =
              let here : k ≡ j = omega (arith, ltb-false k j q) in
              let g = x.grown in
              let t = x.start in
              subst (λ (i : ℕ). Stands (own_scope declared d.functions i) s c'' i (get_or d.functions i no_function)) here
              (rw (own.1, own.0) (stands-kept (omega arith) (omega arith) w x.stands))

-- ---- an accepted sheet

definitions-at : (ps : List ℕ) (i : ℕ) → length ps ≤ 8 → i < length ps → get_or (definitions_of ps) i 0 ≡ get_or ps i 0
unfolding definitions_of
definitions-at ps i most l =
    ap (λ (q : List ℕ). get_or q i 0) (sets-eq ps (replicate 8 0) 0 (omega arith)) ∙ get_or-append ps _ 0 i l

function_count-same : (n : ℕ) → n ≤ 8 → function_count n ≡ n
unfolding function_count
function_count-same n l = by (ltb n 8) refl
  where
    by : (t : Bool) → ltb n 8 ≡ t → pick t n 8 ≡ n
    by true e = refl
    by false e = let k = ltb-false n 8 e in omega arith

stands-holds : {s : List ℕ} {declared n : ℕ} {fs : List Function} {c : Laid} → Stands (own_scope declared fs n) s c n (get_or fs n no_function)
    → Holds s declared fs c n
stands-holds {n = n} {fs = fs} {c = c} x =
    let size = lay_out-size (get_or fs n no_function).body (get_or c.starts n 0) in
    record { size = x.size; fetched = λ i l. held_at x.held i (omega arith) }

-- Sets from the first entry on.
counted-set : (s : List ℕ) (d : Defined) → Counted s (sets (replicate 8 0) 0 d.places) d.functions → Counted s (definitions_of d.places) d.functions
unfolding definitions_of
counted-set s d h = h

pub bodies-laid : BodiesLaid
unfolding BodiesLaid whole_sheet lay_at
bodies-laid E expr s code r e long =
    let k = check-ok (leb (length s) 8192) 1 8192 _ e in
    let short = leb-true (length s) 8192 k.0 in
    let h = bind_ok (read_head s) _ k.1 in
    let m = h.0.scope.declared in
    let fs = bind_ok (read_functions m m [] s h.0.next) _ h.2 in
    let c = with_functions h.0.scope fs.0.functions in
    let es = bind_ok (read_wires expr c s h.0.wires (c.inputs + c.registers) fs.0.next) _ fs.2 in
    let ts = bind_ok (read_threads expr c s h.0.threads es.0.next) _ es.2 in
    let z = check-ok (eqb ts.0.next (length s)) 10 ts.0.next _ ts.2 in
    let most = (headed s h.1).functions-most in
    let ds = definitions_of fs.0.places in
    let b = behind m m [] s h.0.next fs.1 in
    let size = ap length b.split in
    let many = b.many in
    let places = b.places in
    let counted = functions-counted m m [] s h.0.next (replicate 8 0) 0 refl (omega arith) refl (counted_none s (replicate 8 0)) fs.1 in
    let x =
    all-stand s ds short m m [] h.0.next 0 (laid 0 (replicate 8 0) (replicate 8 0) code) fs.1 refl (omega arith) (counted-set s fs.0 counted)
    (λ i q. let w : 0 + i ≡ i = omega arith in
    ap (λ (j : ℕ). get_or ds j 0) w ∙ definitions-at fs.0.places i (omega arith) (omega arith))
    (omega arith) long refl refl
    in
    rw (← ok-injective z.1) (λ n l. rw (function_count-same m most) (stands-holds (x.stands n (omega arith) (omega arith))))
