-- Replies of a map of documents: an aid of its contracts.
use Rattle.doc_register.specs.Register.{shown}
use Rattle.doc_register.specs.declared.op.Op.{Op}
use Rattle.doc_register.specs.declared.op.Op.TheVariants.{Get, Index, Delete, Create}
use Rattle.doc_register.specs.declared.reply.Reply.{Reply}
use Rattle.doc_register.specs.declared.reply.Reply.TheVariants.{Conflict}
use Rattle.doc_register.specs.declared.state.DocState.{DocState}

-- the reply to a call that is not a performed write
abbrev pub unperformed_reply : DocState → Op → Reply
unperformed_reply s Get = shown s
unperformed_reply s (Index k c) = Conflict
unperformed_reply s (Delete c) = Conflict
unperformed_reply s (Create k) = Conflict
