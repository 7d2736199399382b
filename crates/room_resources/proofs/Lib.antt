mod Lists
mod Naming
mod Definable
mod Droppable
