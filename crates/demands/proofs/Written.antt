-- What the notice's call wrote, split at its line feeds, is the lines, and a line stands there exactly if it is one of
-- them. Assumes nothing.
use Prim.Native.Nat.{ℕ}
use mathlib.Core.Path.{◌≡◌, refl, sym, ap, ap₂, ◌∙◌}
use mathlib.Core.List.Memᴰ
use mathlib.Core.List.{List, [], ◌∷◌, ◌++◌, map, append_assoc, Memᴰ}
use mathlib.Core.Logic.{◌↔◌, ◌⊎◌, inl, inr}
use Rattle.findings.specs.declared.Line.{Line}
use Rattle.notice.specs.Text.{render, render_all}
use Rattle.notice.specs.Split.{split_from, lines_in}
use Rattle.notice.proofs.Splitting.{body, body_text_law, body_feedless, split_line}
use Rattle.demands.proofs.NoticeBytes.{Valid, AllValid, same_text_same_line}

pub lines_rendered : (ls : List Line) → AllValid ls → lines_in (render_all ls) ≡ map render ls
unfolding render_all split_from
lines_rendered [] v = refl
lines_rendered (l ∷ ls) v =
    ap (λ (t : List ℕ). lines_in (t ++ render_all ls)) (body_text_law l)
    ∙ ap lines_in (append_assoc (body l) (10 ∷ []) (render_all ls))
    ∙ split_line [] (body l) (render_all ls) (body_feedless l v.0.known)
    ∙ ap₂ (λ (t : List ℕ) (ts : List (List ℕ)). t ∷ ts) (sym (body_text_law l)) (lines_rendered ls v.1)

-- a line's text is among the texts of lines exactly if the line is among them
found : (l m : Line) (ms : List Line) → Valid l → Valid m → (Memᴰ (render l) (map render ms) → Memᴰ l ms)
    → (render l ≡ render m) ⊎ Memᴰ (render l) (map render ms) → Memᴰ l (m ∷ ms)
found l m ms v w more (inl e) = Memᴰ.head (same_text_same_line l m v w e)
found l m ms v w more (inr i) = Memᴰ.tail (more i)

pub text_back : (l : Line) (ls : List Line) → Valid l → AllValid ls → Memᴰ (render l) (map render ls) → Memᴰ l ls
text_back l [] v w i = absurd (Memᴰ.not-nil i)
text_back l (m ∷ ms) v w i = found l m ms v w.0 (text_back l ms v w.1) (Memᴰ.cases_cons i)

pub text_iff : (l : Line) (ls : List Line) → Valid l → AllValid ls → Memᴰ (render l) (map render ls) ↔ Memᴰ l ls
text_iff l ls v w = (text_back l ls v w, Memᴰ.map render)
