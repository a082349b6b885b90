-- Closing a package over what was written.
use Rattle.std.proofs.Common.{◌≡◌, ℕ, ◌+◌, ◌-◌, List, ◌++◌, length, take, drop, replicate, Vec, Option, Some, sym, ap}
use Rattle.std.proofs.Common.{◌∙◌, append_assoc, arith}
use Rattle.std.proofs.lemmas.List.{take_at, drop_at, length-append, length-replicate}
use Rattle.aml_code.specs.declared.packages.PkgWidth.{PkgWidth}
use Rattle.aml_code.specs.Packages.{width_len, package_bytes}
use Rattle.std.specs.declared.alloc.Global.{Global}
use Rattle.aml_code.specs.declared.tree.Node.{Node, Op}
use Rattle.aml_code.specs.declared.tree.Part.{Part}
use Rattle.aml_code.specs.declared.tree.Tail.{Tail}
use Rattle.aml_code.specs.View.{node_view, parts_view, tail_view}
use Rattle.aml_code.specs.Tree.{opcode_bytes, packed, encoding, parts_encoding, tail_encoding}
use Rattle.aml_code.proofs.Views.{view-Op}

-- Room was left at the end of what stands, and content was written behind it: with the room filled in, what stands is
-- followed by the length, and by the content.
pub closed : (front room content length_bytes : List ℕ) (at width : ℕ) (open_out closed_out : List ℕ)
    → at ≡ length front → length room ≡ width
    → open_out ≡ (front ++ room) ++ content
    → closed_out ≡ take at open_out ++ (length_bytes ++ drop (at + width) open_out)
    → closed_out ≡ front ++ (length_bytes ++ content)
closed front room content length_bytes at width open_out closed_out is_at is_room written e =
    let split : open_out ≡ front ++ (room ++ content) = written ∙ append_assoc front room content in
    let head : take at open_out ≡ front = ap (take at) split ∙ take_at front (room ++ content) at (sym is_at) in
    let both : at + width ≡ length (front ++ room) = omega (arith, is_at, is_room, length-append front room) in
    let tail : drop (at + width) open_out ≡ content = ap (drop (at + width)) written ∙ drop_at (front ++ room) content (at + width) (sym both) in
    e ∙ ap (λ (h : List ℕ). h ++ (length_bytes ++ drop (at + width) open_out)) head ∙ ap (λ (t : List ℕ). front ++ (length_bytes ++ t)) tail

-- an opcode, room for its package length, parts, a tail, and the length into the room
pub package_written : (o : ℕ) (w : PkgWidth) (ps t out0 out1 out2 out3 out4 out5 : List ℕ) (at : ℕ)
    → out1 ≡ out0 ++ opcode_bytes o → at ≡ length out1
    → out2 ≡ out1 ++ replicate (width_len w) 0
    → out3 ≡ out2 ++ ps → out4 ≡ out3 ++ t
    → out5 ≡ take at out4 ++ (package_bytes w (length out4 - at) ++ drop (at + width_len w) out4)
    → (whole : List ℕ) → opcode_bytes o ++ packed (Some w) (ps ++ t) ≡ whole → out5 ≡ out0 ++ whole
package_written o w ps t out0 out1 out2 out3 out4 out5 at e1 is_at e2 e3 e4 e5 whole last =
    let room = replicate (width_len w) 0 in
    let is_room : length room ≡ width_len w = length-replicate (width_len w) 0 in
    let written : out4 ≡ (out1 ++ room) ++ (ps ++ t) =
    e4 ∙ ap (λ (x : List ℕ). x ++ t) (e3 ∙ ap (λ (x : List ℕ). x ++ ps) e2) ∙ append_assoc (out1 ++ room) ps t in
    let long : length out4 ≡ (length out1 + width_len w) + length (ps ++ t) =
    ap length written ∙ length-append (out1 ++ room) (ps ++ t) ∙ ap (λ n. n + length (ps ++ t)) (length-append out1 room ∙ ap (λ n. length out1 + n) is_room) in
    let n : length out4 - at ≡ width_len w + length (ps ++ t) = omega (arith, long, is_at) in
    closed out1 room (ps ++ t) (package_bytes w (length out4 - at)) at (width_len w) out4 out5 is_at is_room written e5
    ∙ ap (λ (m : ℕ). out1 ++ (package_bytes w m ++ (ps ++ t))) n
    ∙ ap (λ (x : List ℕ). x ++ packed (Some w) (ps ++ t)) e1
    ∙ append_assoc out0 (opcode_bytes o) (packed (Some w) (ps ++ t))
    ∙ ap (λ (x : List ℕ). out0 ++ x) last

pub op_encoded : (code : List ℕ) (node : Node) (o : ℕ) (w : Option PkgWidth) (width : PkgWidth) (ps : Vec Part Global) (t : Tail) → node ≡ Op o w ps t
    → w ≡ Some width
    → (slice : List Part) → slice ≡ ps.items
    → opcode_bytes o ++ packed (Some width) (parts_encoding code (parts_view slice) ++ tail_encoding code (tail_view t)) ≡ encoding code (node_view node)
op_encoded code node o w width ps t is is_width slice is_slice =
    ap (λ (xs : List Part). opcode_bytes o ++ packed (Some width) (parts_encoding code (parts_view xs) ++ tail_encoding code (tail_view t))) is_slice
    ∙ ap (λ (u : Option PkgWidth). opcode_bytes o ++ packed u (parts_encoding code (parts_view ps.items) ++ tail_encoding code (tail_view t))) (sym is_width)
    ∙ sym (ap (encoding code) (ap node_view is ∙ view-Op o w ps t))
