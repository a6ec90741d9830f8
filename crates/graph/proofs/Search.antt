-- What a search has found: the way to a node, and that it is a path.
use Rattle.std.proofs.Common.{◌≡◌, ℕ, zero, suc, ◌+◌, ◌<◌, ◌≤◌, true, false, ◌⊎◌, List, [], ◌∷◌, ◌++◌, length, get_or, reverse, Some, None, Option, sym, refl, ap, ◌∙◌, subst, inl, inr, ⊎_elim, add-one, arith}
use Rattle.std.proofs.Math.ListN.{get_or-append}
use Rattle.std.proofs.lemmas.List.{reverse-append, get_or-set_same, get_or-set_other, length-set, length_push}
use Rattle.std.proofs.lemmas.Bool.{both_ways, eq-eqb, eqb-true, or_left, or_right, or_cases, cases_Bool, cases_eq}
use Rattle.graph.specs.Nodes.{has}
use Rattle.graph.specs.Paths.{Relation, ◌∈◌, Distinct, Linked, Path, ShowsPath}
use Rattle.graph.specs.Search.{unreached, from_of, depth_of, way_before, Starts, Adds}
use Rattle.graph.specs.declared.path.Found.{Found}
use Rattle.graph.specs.declared.path.Reach.{Reach}
use Rattle.graph.proofs.Paths.{no_way_out, shown_path}
use Rattle.graph.proofs.Lists.{all_same, in_at, place_of, in_left, in_right, in_push, distinct_push, distinct_few}

-- how the search came to a node: it is the start, or an edge led to it from a node one edge nearer to the start
abbrev pub Came : Relation → ℕ → Found → ℕ → Type 0
Came E start f n =
    ((n ≡ start) × (depth_of f n ≡ 0))
    ⊎ ((from_of f n ∈ f.order.items) × E (from_of f n) n × (depth_of f n ≡ depth_of f (from_of f n) + 1))

-- what holds of the nodes found: each is a node of the graph and was found once; each but the start was reached by
-- an edge from one found before it, on a way longer by one; the goal is not among them, unless it is the start
pub record Reached (E : Relation) (size start goal : ℕ) (f : Found) : Type 0 where
  pub places : length f.reach ≡ 64
  pub distinct : Distinct f.order.items
  pub inside : (n : ℕ) → n ∈ f.order.items → n < size
  pub begun : start ∈ f.order.items
  pub marked : (n : ℕ) → n ∈ f.order.items → has f.seen n ≡ true
  pub unmarked : (n : ℕ) → has f.seen n ≡ true → n ∈ f.order.items
  pub came : (n : ℕ) → n ∈ f.order.items → Came E start f n
  pub low : (n : ℕ) → from_of f n < 64
  pub shallow : (n : ℕ) → n ∈ f.order.items → depth_of f n < length f.order.items
  pub short_of : (n : ℕ) → n ∈ f.order.items → n ≡ goal → n ≡ start

module _ (E : Relation) (size start goal : ℕ) (few : size ≤ 64) where
  pub reached_start : (f : Found) → start < size → Starts start f → Reached E size start goal f
  reached_start f l s =
      let only : (n : ℕ) → n ∈ f.order.items → n ≡ start = λ n i. ⊎_elim (λ e. e) (λ b. absurd b) (rw s.order at i) in
      let none : (n : ℕ) → get_or f.reach n unreached ≡ unreached = λ n. rw s.reach (all_same 64 n unreached) in
      let depth : (n : ℕ) → depth_of f n ≡ 0 = λ n. ap (λ (r : Reach). r.depth) (none n) in
      record {
        places = ap length s.reach;
        distinct = rw s.order ((λ b. b), tt);
        inside = λ n i. rw (only n i) l;
        begun = rw s.order (inl refl);
        marked = λ n i. s.seen n ∙ eq-eqb n start (only n i);
        unmarked = λ n t. rw s.order (inl (eqb-true n start (sym (s.seen n) ∙ t)));
        came = λ n i. inl (only n i, depth n);
        low = λ n. omega (arith, ap (λ (r : Reach). r.from) (none n));
        shallow = λ n i. omega (arith, depth n, ap length s.order);
        short_of = λ n i _. only n i;
      }

  -- at most 64 are found
  pub counted : (f : Found) → Reached E size start goal f → length f.order.items ≤ 64
  counted f r = omega (arith, distinct_few size f.order.items r.distinct r.inside)

  -- there is room for a node that was not found before
  pub room : (f : Found) (to : ℕ) → Reached E size start goal f → to < size → has f.seen to ≡ false → length f.order.items < 64
  room f to r l u =
      let fresh : to ∈ f.order.items → ⊥ = λ i. both_ways (has f.seen to) u (r.marked to i) in
      let below : (n : ℕ) → n ∈ (f.order.items ++ to ∷ []) → n < size =
      λ n i. ⊎_elim (r.inside n) (λ e. rw e l) (in_push n f.order.items to i) in
      omega (
        arith,
        distinct_few size (f.order.items ++ to ∷ []) (distinct_push f.order.items to r.distinct fresh) below,
        length_push f.order.items to,
      )

  module _ (f g : Found) (at to : ℕ) (r : Reached E size start goal f) (i : at ∈ f.order.items) (l : to < size)
      (u : has f.seen to ≡ false) (a : Adds f at to g) where
    fresh : to ∈ f.order.items → ⊥
    fresh h = both_ways (has f.seen to) u (r.marked to h)

    found_before : (n : ℕ) → n ∈ f.order.items → n ∈ g.order.items
    found_before n h = rw a.order (in_left n f.order.items (to ∷ []) h)

    found_last : to ∈ g.order.items
    found_last = rw a.order (in_right to f.order.items (to ∷ []) (inl refl))

    found_cases : (n : ℕ) → n ∈ g.order.items → (n ∈ f.order.items) ⊎ (n ≡ to)
    found_cases n h = in_push n f.order.items to (rw a.order at h)

    more : length g.order.items ≡ length f.order.items + 1
    more = ap length a.order ∙ length_push f.order.items to

    -- how the search came to the new node, and to any other
    reach_last : get_or g.reach to unreached ≡ record { from = at; depth = depth_of f at + 1 }
    reach_last = ap (λ xs. get_or xs to unreached) a.reach ∙ get_or-set_same f.reach to _ unreached (omega (arith, r.places))

    reach_other : (n : ℕ) → (n ≡ to → ⊥) → get_or g.reach n unreached ≡ get_or f.reach n unreached
    reach_other n d = ap (λ xs. get_or xs n unreached) a.reach ∙ get_or-set_other f.reach to n _ unreached d

    reach_before : (n : ℕ) → n ∈ f.order.items → get_or g.reach n unreached ≡ get_or f.reach n unreached
    reach_before n h = reach_other n (λ e. fresh (rw e at h))

    from_before : (n : ℕ) → n ∈ f.order.items → from_of g n ≡ from_of f n
    from_before n h = ap (λ (x : Reach). x.from) (reach_before n h)

    depth_before : (n : ℕ) → n ∈ f.order.items → depth_of g n ≡ depth_of f n
    depth_before n h = ap (λ (x : Reach). x.depth) (reach_before n h)

    from_last : from_of g to ≡ at
    from_last = ap (λ (x : Reach). x.from) reach_last

    depth_last : depth_of g to ≡ depth_of f at + 1
    depth_last = ap (λ (x : Reach). x.depth) reach_last

    came_before : (n : ℕ) → n ∈ f.order.items → Came E start g n
    came_before n h = elim (r.came n h) [
      | inl c ↦ inl (c.0, depth_before n h ∙ c.1)
      | inr c ↦ rw (from_before n h, depth_before n h) (inr (found_before _ c.0, c.1, c.2 ∙ ap (λ d. d + 1) (sym (depth_before _ c.0))))
    ]

    came_last : E at to → Came E start g to
    came_last e = rw (from_last, depth_last) (inr (found_before at i, e, ap (λ d. d + 1) (sym (depth_before at i))))

    from_low : (n : ℕ) → from_of g n < 64
    from_low n = elim (cases_eq n to) [
      | inl e ↦ rw e (omega (arith, from_last, r.inside at i))
      | inr d ↦ omega (arith, ap (λ (x : Reach). x.from) (reach_other n d), r.low n)
    ]

    pub reached_more : E at to → (to ≡ goal → ⊥) → Reached E size start goal g
    reached_more e ne = record {
      places = ap length a.reach ∙ length-set f.reach _ _ ∙ r.places;
      distinct = rw a.order (distinct_push f.order.items to r.distinct fresh);
      inside = λ n h. ⊎_elim (r.inside n) (λ p. rw p l) (found_cases n h);
      begun = found_before start r.begun;
      marked = λ n h. a.seen n ∙ ⊎_elim (λ o. or_left _ _ (r.marked n o)) (λ p. or_right _ _ (eq-eqb n to p)) (found_cases n h);
      unmarked = λ n t. ⊎_elim (λ o. found_before n (r.unmarked n o)) (λ o. rw (eqb-true n to o) found_last) (or_cases _ _ (sym (a.seen n) ∙ t));
      came = λ n h. ⊎_elim (came_before n) (λ p. rw p (came_last e)) (found_cases n h);
      low = from_low;
      shallow = λ n h. ⊎_elim (λ o. omega (arith, r.shallow n o, depth_before n o, more)) (λ p. rw p (omega (arith, depth_last, r.shallow at i, more))) (found_cases n h);
      short_of = λ n h p. ⊎_elim (λ o. r.short_of n o p) (λ o. absurd (ne (sym o ∙ p))) (found_cases n h);
    }

  module _ (f : Found) (r : Reached E size start goal f) where
    -- a node with no way to it is the start
    nearest : (n : ℕ) → n ∈ f.order.items → depth_of f n ≡ 0 → n ≡ start
    nearest n h d = ⊎_elim (λ c. c.0) (λ c. absurd (omega arith)) (r.came n h)

    way_good : (d n : ℕ) (after : List ℕ) → n ∈ f.order.items → depth_of f n ≡ d → Linked E (n ∷ after ++ goal ∷ [])
        → Distinct after → ((x : ℕ) → x ∈ after → (x ∈ f.order.items) × (d < depth_of f x))
        → ShowsPath E start goal (way_before f (suc d) n after)
    way_good zero n after h z k u later =
        let first = nearest n h z in
        let once : n ∈ after → ⊥ = λ i. omega (arith, (later n i).1) in
        let short : goal ∈ after → ⊥ = λ i. once (rw (first ∙ sym (r.short_of goal (later goal i).0 refl)) i) in
        (first, k, (once, u), short)
    way_good (suc d) n after h z k u later = elim (r.came n h) [
      | inl c ↦ absurd (omega arith)
      | inr c ↦ way_good d (from_of f n) (n ∷ after) c.0 (omega arith) (c.1, k)
          ((λ i. omega (arith, (later n i).1)), u)
          (λ x i. ⊎_elim (λ e. rw e (h, omega arith)) (λ j. ((later x j).0, omega (arith, (later x j).1))) i)
    ]

    pub way_shown : (at : ℕ) → at ∈ f.order.items → E at goal
        → ShowsPath E start goal (way_before f (depth_of f at + 1) at [])
    way_shown at i e = rw (add-one (depth_of f at)) (way_good (depth_of f at) at [] i refl (e, tt) tt (λ x b. absurd b))

-- every edge from the node leads to one that is found, and not to the goal
abbrev pub Followed : Relation → ℕ → Found → ℕ → Type 0
Followed E goal f n = (j : ℕ) → E n j → (j ∈ f.order.items) × (j ≡ goal → ⊥)

-- the edges of the first nodes found have been followed
pub record Searched (E : Relation) (size start goal : ℕ) (f : Found) (head : ℕ) : Type 0 where
  pub reached : Reached E size start goal f
  pub upto : head ≤ length f.order.items
  pub done : (k : ℕ) → k < head → Followed E goal f (get_or f.order.items k 0)

-- and so have those of one more that lead to a node below the next one
pub record Searching (E : Relation) (size start goal : ℕ) (f : Found) (head at to : ℕ) : Type 0 where
  pub reached : Reached E size start goal f
  pub upto : head < length f.order.items
  pub here : get_or f.order.items head 0 ≡ at
  pub done : (k : ℕ) → k < head → Followed E goal f (get_or f.order.items k 0)
  pub begun : Followed (λ i j. (j < to) × E i j) goal f at

module _ (E : Relation) (size start goal : ℕ) (few : size ≤ 64) where
  pub searched_none : (f : Found) → start < size → Starts start f → Searched E size start goal f 0
  searched_none f l s = record {
    reached = reached_start E size start goal few f l s;
    upto = omega arith;
    done = λ k b. absurd (omega arith);
  }

  pub searching_none : (f : Found) (head : ℕ) → Searched E size start goal f head → head < length f.order.items
      → Searching E size start goal f head (get_or f.order.items head 0) 0
  searching_none f head s l = record {
    reached = s.reached;
    upto = l;
    here = refl;
    done = s.done;
    begun = λ j e. absurd (omega (arith, e.0));
  }

  module _ (f : Found) (head at to : ℕ) (s : Searching E size start goal f head at to) where
    pub at_found : at ∈ f.order.items
    at_found = subst (λ n. n ∈ f.order.items) s.here (in_at f.order.items head s.upto)

    -- one more node to which no edge leads
    pub searching_skip : (E at to → ⊥) → Searching E size start goal f head at (to + 1)
    searching_skip ne = record {
      reached = s.reached;
      upto = s.upto;
      here = s.here;
      done = s.done;
      begun = λ j e. elim (cases_eq j to) [
        | inl p ↦ absurd (ne (subst (E at) p e.1))
        | inr d ↦ s.begun j (omega (arith, e.0), e.1)
      ];
    }

    -- one more node, found before
    pub searching_old : (to ≡ goal → ⊥) → has f.seen to ≡ true → Searching E size start goal f head at (to + 1)
    searching_old ne t = record {
      reached = s.reached;
      upto = s.upto;
      here = s.here;
      done = s.done;
      begun = λ j e. elim (cases_eq j to) [
        | inl p ↦ rw p (s.reached.unmarked to t, ne)
        | inr d ↦ s.begun j (omega (arith, e.0), e.1)
      ];
    }

    -- one more node, found now
    pub searching_new : (g : Found) → E at to → to < size → (to ≡ goal → ⊥) → has f.seen to ≡ false → Adds f at to g
        → Searching E size start goal g head at (to + 1)
    searching_new g e l ne u a =
        let r = s.reached in
        let grown : (n : ℕ) → n ∈ f.order.items → n ∈ g.order.items =
        found_before E size start goal few f g at to r at_found l u a in
        let same : (k : ℕ) → k < length f.order.items → get_or g.order.items k 0 ≡ get_or f.order.items k 0 =
        λ k b. ap (λ xs. get_or xs k 0) a.order ∙ get_or-append f.order.items (to ∷ []) 0 k b in
        record {
          reached = reached_more E size start goal few f g at to r at_found l u a e ne;
          upto = omega (arith, s.upto, ap length a.order, length_push f.order.items to);
          here = same head s.upto ∙ s.here;
          done = λ k b j d. let h = s.done k b j (subst (λ n. E n j) (same k (omega (arith, s.upto))) d) in (grown j h.0, h.1);
          begun = λ j d. elim (cases_eq j to) [
            | inl p ↦ rw p (found_last E size start goal few f g at to r at_found l u a, ne)
            | inr o ↦ let h = s.begun j (omega (arith, d.0), d.1) in (grown j h.0, h.1)
          ];
        }

    -- one more node to which an edge leads
    pub searching_noted : (g : Found) → E at to → to < size → (to ≡ goal → ⊥) → (has f.seen to ≡ true → g ≡ f)
        → (has f.seen to ≡ false → Adds f at to g) → Searching E size start goal g head at (to + 1)
    searching_noted g e l ne old new = elim (cases_Bool (has f.seen to)) [
      | inl t ↦ rw (old t) (searching_old ne t)
      | inr u ↦ searching_new g e l ne u (new u)
    ]

    -- all edges of one more node have been followed
    pub searched_more : ((j : ℕ) → E at j → j < to) → Searched E size start goal f (head + 1)
    searched_more all = record {
      reached = s.reached;
      upto = omega (arith, s.upto);
      done = λ k b j e. elim (cases_eq k head) [
        | inl p ↦ let d = subst (λ n. E n j) (ap (λ m. get_or f.order.items m 0) p ∙ s.here) e in s.begun j (all j d, d)
        | inr o ↦ s.done k (omega arith) j e
      ];
    }

  -- where the edges of all nodes found have been followed, no path leads to the goal
  pub searched_all : (f : Found) (head : ℕ) → Searched E size start goal f head → length f.order.items ≤ head → Path E start goal → ⊥
  searched_all f head s l =
      no_way_out (λ n. n ∈ f.order.items) goal
      (λ i j h e. let p = place_of f.order.items i h in
      s.done p.0 (omega (arith, p.1)) j (subst (λ n. E n j) (sym p.2) e))
      s.reached.begun

-- how a search ends: on a node from which an edge leads to the goal, or with no path to it
abbrev pub Ended : Relation → ℕ → ℕ → ℕ → Found → Option ℕ → Type 0
Ended E size start goal f None = Path E start goal → ⊥
Ended E size start goal f (Some at) = Reached E size start goal f × (at ∈ f.order.items) × E at goal

module _ (E : Relation) (size start goal : ℕ) (few : size ≤ 64) where
  pub ended_all : (f : Found) (head : ℕ) (last : Option ℕ) → Searched E size start goal f head → length f.order.items ≤ head → last ≡ None
      → Ended E size start goal f last
  ended_all f head last s l e = rw e (searched_all E size start goal few f head s l)

  pub ended_found : (f : Found) (head at to : ℕ) (last : Option ℕ) → Searching E size start goal f head at to → E at to → to ≡ goal
      → last ≡ Some at → Ended E size start goal f last
  ended_found f head at to last s e p q = rw q (s.reached, at_found E size start goal few f head at to s, subst (E at) p e)

pub ended_at : (E : Relation) (size start goal : ℕ) (f : Found) (last : Option ℕ) (at : ℕ) → Ended E size start goal f last → last ≡ Some at
    → Reached E size start goal f × (at ∈ f.order.items) × E at goal
ended_at E size start goal f last at e p = subst (Ended E size start goal f) p e

pub ended_none : (E : Relation) (size start goal : ℕ) (f : Found) (last : Option ℕ) → Ended E size start goal f last → last ≡ None
    → Path E start goal → ⊥
ended_none E size start goal f last e p = subst (Ended E size start goal f) p e

-- a path that is shown is one
pub shows_finds : (E : Relation) (start goal : ℕ) (ns : List ℕ) → ShowsPath E start goal ns → Path E start goal
shows_finds E start goal [] s = absurd s
shows_finds E start goal (n ∷ ns) s = subst (λ i. Path E i goal) s.0 (shown_path n goal ns s.1)

-- the way with one more node put before it, where the nodes are kept from the last to the first
pub way_push : (f : Found) (left at : ℕ) (ns : List ℕ) → way_before f left (from_of f at) (reverse (ns ++ at ∷ [])) ≡ way_before f (left + 1) at (reverse ns)
way_push f left at ns = rw (add-one left, reverse-append) refl
