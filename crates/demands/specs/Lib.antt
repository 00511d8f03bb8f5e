-- What the card owes, stated over its public routines. To be read in this order:
--   Calls     what the statements speak of: the routines, calls on a stream, the two protocols that come as one, messages
--   Kept      what every card is that the routines make
--   Orders    document 01's orders of refusals
--   Demand1   numbers: each given exactly then, and what it leaves; bytes used; the host's events; the master's refusals and readers
--   Host      what start, restart and the host's events do
--   Reached   a card on NFO serial can be asked, whatever was written to it
--   Silence   a card at MODE 3 stops by itself when its master is dead
--   Effects   what a message does, by what a following read tells
--   Status    the status word that is kept is right, whatever came before
--   Demand2   what the master wrote arrives, and what was answered is heard
--   Identity  what a master is told that asks who the card is
--   Letters   small letters are taken, capitals are written
--   Demand3   streams, cut anywhere
--   Cases     document 01's worked cases
--   Demands   all of it, one type, of which proofs/Demands.antt has the proof
pub mod Calls
pub mod Kept
pub mod Orders
pub mod Demand1
pub mod Host
pub mod Reached
pub mod Silence
pub mod Effects
pub mod Status
pub mod Demand2
pub mod Identity
pub mod Letters
pub mod Demand3
pub mod Cases
pub mod Demands
