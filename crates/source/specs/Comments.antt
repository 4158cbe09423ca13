-- Comments: what a byte means depends on it and on what is open. Assumes nothing.
use Rattle.std.specs.Prelude.{ℕ, false, cond, ◌&&◌, Some, None, Option, ◌==◌}
use Rattle.source.specs.declared.Ending.{Ending}
use Rattle.source.specs.declared.Ending.TheVariants.{Whole, Fails}
use Rattle.text.specs.declared.FaultKind.TheVariants.{OpenComment}
use Rattle.text.specs.declared.Placed.{Placed}
use Rattle.source.specs.declared.comment.State.{State}
use Rattle.source.specs.declared.comment.State.TheVariants.{Code, Literal, SlashSeen, Block, LineComment}
use Rattle.source.specs.declared.comment.Step.{Step}
use Rattle.source.specs.declared.comment.Pending.{Pending}
use Rattle.text.specs.Bytes.{mark, quoting}
use Rattle.source.specs.Stream.{Stream, ◌▸◌, ends}

-- a step that hands on no byte, or one
abbrev pub silent : State → Step
silent s = record { out = None; behind = None; next = s }

abbrev pub hand : Placed → State → Step
hand p s = record { out = Some p; behind = None; next = s }

-- a step behind a slash that was seen and begins no comment
abbrev pub behind_slash : ℕ → Step → Step
behind_slash line s = record { out = Some (record { byte = 47; line = line }); behind = s.out; next = s.next }

-- outside literals and comments
abbrev pub in_code : Placed → Step
in_code p = cond (mark p.byte) (hand p (Literal p.byte false)) (cond (p.byte == 47) (silent (SlashSeen p.line)) (hand p Code))

-- what a byte does in each state: the bytes handed on, and the next state
abbrev pub step : State → Placed → Step
step Code p = in_code p
step (Literal m escaped) p =
    cond (p.byte == 10) (hand p Code) (elim (quoting m escaped p.byte) [ None ↦ hand p Code | Some e ↦ hand p (Literal m e) ])
step (SlashSeen line) p =
    cond (p.byte == 42) (silent (Block line false))
    (cond (p.byte == 47) (silent LineComment) (behind_slash line (in_code p)))
step (Block line star) p =
    cond (star && p.byte == 47) (hand (record { byte = 32; line = line }) Code) (silent (Block line (p.byte == 42)))
step LineComment p = cond (p.byte == 10) (hand p Code) (silent LineComment)

-- a byte, if there is one, in front of a stream
abbrev pub emit : Option Placed → Stream → Stream
emit None s = s
emit (Some p) s = p ▸ s

-- a slash that was seen is handed on before the ending; a block comment open at a whole ending is a fault on its line
abbrev pub at_end : State → Ending → Stream
at_end Code e = ends e
at_end (Literal m escaped) e = ends e
at_end (SlashSeen line) e = record { byte = 47; line = line } ▸ ends e
at_end (Block line star) Whole = ends (Fails (record { kind = OpenComment; line = line }))
at_end (Block line star) (Fails f) = ends (Fails f)
at_end LineComment e = ends e

abbrev pub comments : State → Stream → Stream
comments st (p ▸ s) = emit (step st p).out (emit (step st p).behind (comments (step st p).next s))
comments st (ends e) = at_end st e

-- what the layer makes of a stream
abbrev pub uncommented : Stream → Stream
uncommented s = comments Code s

-- the same with the layer's state put back
abbrev pub uncommented_from : Pending → Stream → Stream
uncommented_from w s = emit w.queued (comments w.state s)
